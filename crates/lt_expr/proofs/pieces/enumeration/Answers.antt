use Rattle.std.proofs.Common.{ap}
use Rattle.lt_tree.specs.Tree as t
use Rattle.lt_expr.proofs.Rows.{enumerators_are}
use Rattle.lt_expr.proofs.pieces.enumeration.Goals as goal

pub returns : goal.returns
returns c = ap (t.Enum c.args.tag) (enumerators_are c.args.enumerators)
