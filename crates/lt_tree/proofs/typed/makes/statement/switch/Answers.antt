use Rattle.std.proofs.Common.{ap}
use Rattle.lt_tree.specs.Typing.TypedTree as e
use Rattle.lt_tree.specs.Typing.ValueView.{value_of}
use Rattle.lt_tree.proofs.TypedRows.{cases_are}
use Rattle.lt_tree.proofs.typed.makes.statement.switch.Goals as goal

pub returns : goal.returns
returns c = λ types. ap (e.Switch (value_of types c.args.operand.value)) (cases_are types c.args.cases)
