use Rattle.lt_meaning.proofs.Untracked.{untracked}
use Rattle.lt_meaning.proofs.laws.footprints_are_needed_for_clashes_alone.Goals as goal

pub returns : goal.returns
returns c = untracked
