use Rattle.lt_elim.proofs.Laws.{differences_stay_small}
use Rattle.lt_elim.proofs.law.differences_stay_small.Goals as goal

pub returns : goal.returns
returns c = differences_stay_small
