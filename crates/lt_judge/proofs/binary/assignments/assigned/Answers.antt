use Rattle.std.proofs.Common.{ap}
use Rattle.lt_env.specs.Views.{typed_of, typed_in}
use Rattle.lt_env.proofs.Judgements.{stays_on, widens_on}
use Rattle.lt_judge.proofs.JudgedChoices.{assigned_is}
use Rattle.lt_judge.proofs.binary.assignments.assigned.Goals as goal

pub returns-clause-made : goal.returns-clause-made
returns-clause-made c = λ longer more.
    let w3 = c.converted_value.ensures.widens in
    let w23 = widens_on c.place_in.ensures.widens w3 in
    assigned_is (typed_in longer c.args.x) (typed_in longer c.args.y) _ _ _ _ _ _ _ (ap (typed_of longer) c.deref.ensures) (c.own_type.ensures longer)
    (stays_on w23 c.in_ok-t.ensures.made longer more) (stays_on w3 c.in_ok-place.ensures.made longer more) (c.in_ok-value.ensures.made longer more)
    (c.in_ok-value-2.ensures longer) (c.in_ok-all.ensures longer)
