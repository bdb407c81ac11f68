use Rattle.lt_decl.proofs.SoundUnits.{unit_read_is_derived}
use Rattle.lt_decl.proofs.laws.unit_read_is_derived.Goals as goal

pub returns : goal.returns
returns c = unit_read_is_derived
