use Rattle.lt_ranges.proofs.RangedUnits.{programs_are_in_range}
use Rattle.lt_ranges.proofs.laws.programs_are_in_range.Goals as goal

pub returns : goal.returns
returns c = programs_are_in_range
