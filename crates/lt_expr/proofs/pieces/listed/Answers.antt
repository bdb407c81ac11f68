use Rattle.std.proofs.Common.{ap}
use Rattle.lt_tree.specs.Tree as t
use Rattle.lt_expr.proofs.Rows.{parameters_are}
use Rattle.lt_expr.proofs.pieces.listed.Goals as goal

pub returns : goal.returns
returns c = ap t.Listed (parameters_are c.args.list)
