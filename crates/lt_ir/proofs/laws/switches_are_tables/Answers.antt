use Rattle.lt_ir.proofs.Prepared.{switches}
use Rattle.lt_ir.proofs.laws.switches_are_tables.Goals as goal

pub returns : goal.returns
returns c = switches
