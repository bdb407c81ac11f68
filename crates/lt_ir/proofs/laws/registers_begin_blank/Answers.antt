use Rattle.lt_ir.proofs.Prepared.{begin_blank}
use Rattle.lt_ir.proofs.laws.registers_begin_blank.Goals as goal

pub returns : goal.returns
returns c = begin_blank
