use Rattle.lt_code.proofs.Samples.{sizes}
use Rattle.lt_code.proofs.laws.sizes_are_worked_out.Goals as goal

pub returns : goal.returns
returns c = sizes
