use Rattle.lt_ir.proofs.OneWay.{one_end}
use Rattle.lt_ir.proofs.laws.runs_are_over_in_one_way.Goals as goal

pub returns : goal.returns
returns c = one_end
