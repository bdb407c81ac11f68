use Rattle.lt_listed_types.proofs.KeptUnits.{accesses_listed}
use Rattle.lt_listed_types.proofs.laws.types_of_accesses_are_listed.Goals as goal

pub returns : goal.returns
returns c = accesses_listed
