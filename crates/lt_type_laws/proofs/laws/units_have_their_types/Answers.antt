use Rattle.lt_type_laws.proofs.Units.{units_types}
use Rattle.lt_type_laws.proofs.laws.units_have_their_types.Goals as goal

pub returns : goal.returns
returns c = units_types
