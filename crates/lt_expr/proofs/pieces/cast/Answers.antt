use Rattle.lt_tree.specs.Tree as t
use Rattle.lt_expr.specs.Boxes.{boxed}
use Rattle.lt_expr.proofs.Rows.{type_name_is}
use Rattle.lt_expr.proofs.pieces.cast.Goals as goal

pub returns : goal.returns
returns c =
    let name = c.args.name.value in
    type_name_is name.specifiers.storage name.specifiers.inline name.specifiers.noreturn name.specifiers.quals name.specifiers.types name.declarator.name name.declarator.parts
    (λ s d. t.Cast s d (boxed c.args.operand))
