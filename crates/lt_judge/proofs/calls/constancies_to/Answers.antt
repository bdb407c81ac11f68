use Rattle.lt_env.proofs.Judgements.{stays_on}
use Rattle.lt_judge.proofs.calls.constancies_to.Goals as goal

pub returns-clause-with : goal.returns-clause-with
returns-clause-with c = stays_on c.in_ok-erased.ensures.widens c.in_ok-constancy.ensures.made
