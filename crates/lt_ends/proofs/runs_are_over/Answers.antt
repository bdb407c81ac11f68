use Rattle.lt_ends.proofs.Falling.{lowers}
use Rattle.lt_ends.proofs.Over.{over_in_the_end}
use Rattle.lt_ends.proofs.runs_are_over.Goals as goal

pub returns-clause-lower : goal.returns-clause-lower
returns-clause-lower c = lowers

pub returns-clause-over : goal.returns-clause-over
returns-clause-over c = over_in_the_end
