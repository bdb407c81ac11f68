use Rattle.lt_env.proofs.Judgements.{stays_on, widens_on}
use Rattle.lt_judge.proofs.JudgedChoices.{pointer_to}
use Rattle.lt_judge.proofs.binary.choices.void_pointer.Goals as goal

pub returns-clause-made : goal.returns-clause-made
returns-clause-made c = λ longer more.
    let w4 = c.common_pointer.ensures.widens in
    let w34 = widens_on c.void.ensures.widens w4 in
    pointer_to _ _ _ _ _ _ _ (c.in_ok-pointer.ensures.made longer more) (stays_on w4 c.in_ok-void.ensures.made longer more)
    (stays_on (widens_on c.target_in-2.ensures.widens w34) c.in_ok-t.ensures.made longer more) (stays_on w34 c.in_ok-u.ensures.made longer more)
