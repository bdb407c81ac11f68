use Rattle.lt_tree.specs.Tree as c
use Rattle.lt_objective_places.specs.Pieces.{an_expression, an_external}
use Rattle.lt_objective_places.proofs.Going.{all_stand}
use Rattle.lt_objective_places.proofs.Standing.{may_stand, starts}
use Rattle.lt_objective_places.proofs.laws.objectives_stand_where_they_may.Goals as goal

pub returns : goal.returns
returns x = λ unit program criterion k it among place. (
  (λ role e is. may_stand unit program criterion role k e it (all_stand unit k (an_expression role e) is) among place),
  (λ s d body is. starts unit program criterion k s d body it (all_stand unit k (an_external (c.Defines s d body)) is) among place),
)
