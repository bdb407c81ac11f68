use Rattle.lt_typed_nodes.proofs.Constants.{constants_stay}
use Rattle.lt_typed_nodes.proofs.laws.constants_stay.Goals as goal

pub returns : goal.returns
returns c = constants_stay
