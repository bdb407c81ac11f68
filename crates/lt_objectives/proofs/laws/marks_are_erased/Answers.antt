use Rattle.lt_objectives.proofs.ErasedStatements.{marks_go}
use Rattle.lt_objectives.proofs.laws.marks_are_erased.Goals as goal

pub returns : goal.returns
returns c = marks_go
