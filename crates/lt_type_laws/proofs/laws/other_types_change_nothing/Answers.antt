use Rattle.lt_type_laws.proofs.Others.{nothing_changes}
use Rattle.lt_type_laws.proofs.laws.other_types_change_nothing.Goals as goal

pub returns : goal.returns
returns c = nothing_changes
