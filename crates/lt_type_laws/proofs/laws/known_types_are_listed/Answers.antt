use Rattle.lt_type_laws.proofs.Units.{known_listed}
use Rattle.lt_type_laws.proofs.laws.known_types_are_listed.Goals as goal

pub returns : goal.returns
returns c = known_listed
