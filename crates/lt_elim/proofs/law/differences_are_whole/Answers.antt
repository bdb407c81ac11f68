use Rattle.lt_elim.proofs.Laws.{differences_are_whole}
use Rattle.lt_elim.proofs.law.differences_are_whole.Goals as goal

pub returns : goal.returns
returns c = differences_are_whole
