use Rattle.lt_env.proofs.Judgements.{stays_on}
use Rattle.lt_judge.proofs.unary.can_be_stepped.Goals as goal

pub returns-in-Some-clause-made : goal.returns-in-Some-clause-made
returns-in-Some-clause-made c = λ longer more.
    rw (stays_on c.in_ok-int.ensures.widens c.in_ok-t.ensures.made longer more, c.own_type.ensures longer, c.in_ok-int.ensures.made longer more) at (c.in-Some.ensures.value longer more)
