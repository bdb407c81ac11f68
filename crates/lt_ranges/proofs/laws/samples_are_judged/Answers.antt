use Rattle.lt_ranges.proofs.Samples.{judged}
use Rattle.lt_ranges.proofs.laws.samples_are_judged.Goals as goal

pub returns : goal.returns
returns c = judged
