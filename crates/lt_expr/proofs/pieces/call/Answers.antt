use Rattle.std.proofs.Common.{ap}
use Rattle.lt_tree.specs.Tree as t
use Rattle.lt_expr.specs.Boxes.{boxed}
use Rattle.lt_expr.proofs.Rows.{expressions_are}
use Rattle.lt_expr.proofs.pieces.call.Goals as goal

pub returns : goal.returns
returns c = ap (t.Call (boxed c.args.callee)) (expressions_are c.args.arguments)
