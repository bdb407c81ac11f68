use Rattle.std.proofs.Common.{ap}
use Rattle.lt_tree.specs.Tree as t
use Rattle.lt_expr.proofs.Rows.{expressions_are}
use Rattle.lt_expr.proofs.pieces.comma.Goals as goal

pub returns : goal.returns
returns c = ap t.Comma (expressions_are c.args.parts)
