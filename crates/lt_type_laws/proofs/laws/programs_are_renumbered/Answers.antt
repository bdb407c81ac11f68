use Rattle.lt_type_laws.proofs.Units.{programs_renumbered}
use Rattle.lt_type_laws.proofs.laws.programs_are_renumbered.Goals as goal

pub returns : goal.returns
returns c = programs_renumbered
