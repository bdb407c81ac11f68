use Rattle.lt_ir.proofs.Prepared.{stubs}
use Rattle.lt_ir.proofs.laws.stubs_have_places.Goals as goal

pub returns : goal.returns
returns c = stubs
