use Rattle.std.proofs.Common.{ap}
use Rattle.lt_tree.specs.Tree as t
use Rattle.lt_expr.proofs.Rows.{parameters_are}
use Rattle.lt_expr.proofs.pieces.open.Goals as goal

pub returns : goal.returns
returns c = ap t.Open (parameters_are c.args.list)
