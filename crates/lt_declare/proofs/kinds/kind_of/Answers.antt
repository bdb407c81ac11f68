use Rattle.std.proofs.Common.{sym, ◌∙◌}
use Rattle.std.proofs.Common.{subst}
use Rattle.lt_tree.specs.Typing.TypeRows.{types_of_rows, Continues}
use Rattle.lt_declare.proofs.DeclarationParts.{kind_same}
use Rattle.lt_declare.proofs.kinds.kind_of.Goals as goal

pub returns-clause-kind : goal.returns-clause-kind
returns-clause-kind c = λ longer h.
    c.kind.ensures ∙ kind_same c.is_class-is_typedef.ensures (c.in_ok-is_function.ensures.value longer (subst (λ rows. Continues (types_of_rows rows) longer) (sym c.table.ensures) h)) (c.life_of-life.ensures longer) (c.is_register-is_register.ensures longer)
