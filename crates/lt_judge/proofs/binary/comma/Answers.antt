use Rattle.std.proofs.Common.{ap, ◌∙◌}
use Rattle.lt_tree.specs.Typing.TypedTree.{Comma}
use Rattle.lt_tree.specs.Typing.Expressions.{varies}
use Rattle.lt_tree.specs.Typing.BinaryOperations.{values_of, last_of, judge_comma}
use Rattle.lt_env.specs.Views.{all_typed}
use Rattle.lt_env.proofs.Judgements.{stays_on}
use Rattle.lt_judge.proofs.JudgedChoices.{judged_is}
use Rattle.lt_judge.proofs.binary.comma.Goals as goal

pub returns-clause-made : goal.returns-clause-made
unfolding judge_comma
returns-clause-made c = λ longer more.
    let xs = all_typed longer c.args.xs.items in
    judged_is _ _ _ _ _ c.new.ensures
    (c.in_ok-typed.ensures longer
    ∙ ap varies (c.in_ok-value.ensures.made longer more ∙ ap (λ t. Comma (last_of t xs) (values_of xs)) (stays_on c.comma_of.ensures.widens c.in_ok-void.ensures.made longer more)))
    (c.in_ok-judged.ensures longer)
