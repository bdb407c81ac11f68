use Rattle.lt_mark_laws.proofs.Truths.{same_truths}
use Rattle.lt_mark_laws.proofs.laws.truths_are_the_same.Goals as goal

pub returns : goal.returns
returns c = same_truths
