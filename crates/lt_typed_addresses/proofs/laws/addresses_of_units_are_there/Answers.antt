use Rattle.lt_typed_addresses.proofs.KeptUnits.{addresses_are_there}
use Rattle.lt_typed_addresses.proofs.laws.addresses_of_units_are_there.Goals as goal

pub returns : goal.returns
returns c = addresses_are_there
