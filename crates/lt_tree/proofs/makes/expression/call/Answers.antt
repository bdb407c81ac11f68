use Rattle.lt_tree.proofs.Rows.{expressions_are}
use Rattle.lt_tree.proofs.makes.expression.call.Goals as goal

pub returns : goal.returns
returns c = cc (expressions_are c.args.arguments, c.in_ok-new.ensures.ok)
