use Rattle.std.proofs.Common.{ap, option_and_then, ◌∙◌}
use Rattle.lt_tree.specs.Typing.Types.{target_of}
use Rattle.lt_tree.specs.Typing.Expressions.{own_type}
use Rattle.lt_tree.specs.Typing.Operations.{judge_arrow, judge_part, member_in}
use Rattle.lt_table.proofs.TableFound.{then_ok}
use Rattle.lt_env.specs.Views.{typed_in}
use Rattle.lt_env.proofs.Judgements.{stays_on, widens_on}
use Rattle.lt_judge.proofs.parts.arrow.Goals as goal

pub returns-clause-made : goal.returns-clause-made
unfolding judge_arrow
returns-clause-made c = then_ok c.judge_part.result
    (λ j made longer more known model structs.
    let member = option_and_then (λ t. member_in known t c.args.name.now) (target_of (own_type (typed_in longer c.args.x))) in
    let found = rw c.deref.ensures at (stays_on (widens_on c.in_ok-whole.ensures.widens c.judge_part.ensures.widens) c.in_ok-found.ensures longer more known model structs) in
    made longer more member found ∙ ap (λ x. judge_part x member) (stays_on c.judge_part.ensures.widens c.in_ok-whole.ensures.made longer more))
    c.judge_part.ensures.made
