use Rattle.lt_tree.proofs.Rows.{cast_is}
use Rattle.lt_tree.proofs.makes.expression.cast.Goals as goal

pub returns : goal.returns
returns c = cast_is c.in_ok-name.name c.args.name c.in_ok-new.field-0 c.args.operand c.in_ok-name.ensures.ok c.in_ok-new.ensures.ok
