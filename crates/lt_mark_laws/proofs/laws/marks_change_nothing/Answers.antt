use Rattle.lt_mark_laws.proofs.Runs.{nothing_changes}
use Rattle.lt_mark_laws.proofs.laws.marks_change_nothing.Goals as goal

pub returns : goal.returns
returns c = nothing_changes
