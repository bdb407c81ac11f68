use Rattle.lt_cover_laws.proofs.Grouped.{merges_are_there}
use Rattle.lt_cover_laws.proofs.laws.merges_are_there_however_grouped.Goals as goal

pub returns : goal.returns
returns c = merges_are_there
