use Rattle.lt_code.proofs.Samples.{worked_out}
use Rattle.lt_code.proofs.laws.codes_are_worked_out.Goals as goal

pub returns : goal.returns
returns c = worked_out
