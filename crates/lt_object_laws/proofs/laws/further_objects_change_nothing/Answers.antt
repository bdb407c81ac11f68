use Rattle.lt_object_laws.proofs.Runs.{nothing_changes}
use Rattle.lt_object_laws.proofs.laws.further_objects_change_nothing.Goals as goal

pub returns : goal.returns
returns c = nothing_changes
