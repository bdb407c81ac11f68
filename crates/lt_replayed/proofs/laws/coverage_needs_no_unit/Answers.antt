use Rattle.lt_replayed.proofs.Units.{coverage_without_unit}
use Rattle.lt_replayed.proofs.laws.coverage_needs_no_unit.Goals as goal

pub returns : goal.returns
returns c = coverage_without_unit c.marks_change_nothing.ensures c.programs_are_themselves.ensures
