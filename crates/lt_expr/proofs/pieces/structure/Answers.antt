use Rattle.std.proofs.Common.{ap}
use Rattle.lt_tree.specs.Tree as t
use Rattle.lt_expr.proofs.Rows.{members_are}
use Rattle.lt_expr.proofs.pieces.structure.Goals as goal

pub returns : goal.returns
returns c = ap (t.Struct c.args.tag) (members_are c.args.members)
