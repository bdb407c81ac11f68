use Rattle.lt_decl.proofs.CompleteUnits.{unit_derived_is_read}
use Rattle.lt_decl.proofs.laws.unit_derived_is_read.Goals as goal

pub returns : goal.returns
returns c = unit_derived_is_read
