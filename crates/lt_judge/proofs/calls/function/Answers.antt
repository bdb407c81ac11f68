use Rattle.std.proofs.Common.{◌∙◌}
use Rattle.lt_tree.specs.Typing.TypeRows.{type_in}
use Rattle.lt_table.proofs.TableFound.{then_ok}
use Rattle.lt_env.specs.Views.{all_typed}
use Rattle.lt_env.proofs.Judgements.{stays_on}
use Rattle.lt_judge.proofs.PassedArguments.{no_function}
use Rattle.lt_judge.proofs.calls.function.Goals as goal

pub returns-in-None-clause-made : goal.returns-in-None-clause-made
returns-in-None-clause-made c =
    let none = rw c.in-None.is at c.in_ok-function_of.ensures in
    then_ok c.broken.result
    (λ j made longer more known model defined. made longer more ∙ no_function known c.args.name (type_in longer c.args.t) (all_typed longer c.args.xs.items)
    (stays_on c.broken.ensures.widens none longer more))
    c.broken.ensures.made
