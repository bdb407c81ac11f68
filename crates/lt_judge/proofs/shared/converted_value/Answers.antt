use Rattle.std.proofs.Common.{ap, ◌∙◌}
use Rattle.lt_tree.specs.Typing.TypeRows.{type_in}
use Rattle.lt_tree.specs.Typing.Expressions.{converted_to}
use Rattle.lt_env.proofs.Judgements.{stays_on}
use Rattle.lt_judge.proofs.shared.converted_value.Goals as goal

pub returns-clause-made : goal.returns-clause-made
returns-clause-made c = λ longer more.
    c.in_ok-value-2.ensures.made longer more
    ∙ ap (converted_to (type_in longer c.args.t)) (stays_on c.converted_to.ensures.widens c.in_ok-value.ensures.made longer more)
