use Rattle.lt_greater_ids.proofs.RisingUnits.{greater_ids}
use Rattle.lt_greater_ids.proofs.laws.greater_ids_change_nothing.Goals as goal

pub returns : goal.returns
returns c = greater_ids
