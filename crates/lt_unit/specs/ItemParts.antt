-- What one item of a block makes, C11 6.8.2.
use Rattle.lt_tree.specs.Tree as c
use Rattle.lt_tree.specs.Typing.TypedTree as e
use Rattle.lt_tree.specs.Typing.Steps.{Walk, ◌>>=◌, gives}
use Rattle.lt_tree.specs.Typing.StatementTyping.{Around, locals_before}
use Rattle.lt_unit.specs.Inside.{declaration_item, statement_item, mark_item}

abbrev pub created_items : c.Declaration → Walk e.Items
created_items d = declaration_item d >>= (λ locals. gives (locals_before locals e.no_items))

abbrev pub performed_items : c.Statement → Around → Walk e.Items
performed_items s around = statement_item s around >>= (λ made. gives (e.a_statement made e.no_items))

abbrev pub labelled_items : c.Mark → Walk e.Items
labelled_items m = mark_item m >>= (λ made. gives (e.a_label made e.no_items))

-- items before others
abbrev pub joined : e.Items → e.Items → e.Items
joined e.no_items rest = rest
joined (e.a_local l items) rest = e.a_local l (joined items rest)
joined (e.a_statement s items) rest = e.a_statement s (joined items rest)
joined (e.a_label m items) rest = e.a_label m (joined items rest)
