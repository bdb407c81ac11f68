use Rattle.std.proofs.Common.{ap}
use Rattle.lt_tree.specs.Typing.TypedTree as e
use Rattle.lt_tree.proofs.TypedRows.{items_are}
use Rattle.lt_tree.proofs.typed.makes.statement.compound.Goals as goal

pub returns : goal.returns
returns c = λ types. ap e.Compound (items_are types c.args.items)
