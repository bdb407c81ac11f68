use Rattle.lt_type_laws.proofs.Places.{types_renumbered}
use Rattle.lt_type_laws.proofs.laws.types_are_renumbered.Goals as goal

pub returns : goal.returns
returns c = types_renumbered
