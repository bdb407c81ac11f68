use Rattle.lt_cover_laws.proofs.OneMerge.{merges_are_one}
use Rattle.lt_cover_laws.proofs.laws.merges_are_one.Goals as goal

pub returns : goal.returns
returns c = merges_are_one
