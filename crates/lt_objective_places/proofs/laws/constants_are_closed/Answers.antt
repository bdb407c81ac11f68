use Rattle.lt_objective_places.proofs.ConstantsClosed.{constant_is_closed}
use Rattle.lt_objective_places.proofs.laws.constants_are_closed.Goals as goal

pub returns : goal.returns
returns c = λ unit program role k e fact of_unit stays s found constant. constant_is_closed unit program k e fact of_unit stays s.stand.there found constant
