use Rattle.lt_elim.proofs.Laws.{points_satisfy}
use Rattle.lt_elim.proofs.law.points_satisfy.Goals as goal

pub returns : goal.returns
returns c = points_satisfy
