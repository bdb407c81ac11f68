use Rattle.lt_elim.proofs.PointSizes.{difference_points_stay_small}
use Rattle.lt_elim.proofs.law.difference_points_stay_small.Goals as goal

pub returns : goal.returns
returns c = difference_points_stay_small
