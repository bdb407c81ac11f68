use Rattle.std.proofs.Common.{ap}
use Rattle.lt_tree.specs.Tree.{Comma}
use Rattle.lt_tree.proofs.Rows.{expressions_are}
use Rattle.lt_tree.proofs.makes.expression.comma.Goals as goal

pub returns : goal.returns
returns c = ap Comma (expressions_are c.args.parts)
