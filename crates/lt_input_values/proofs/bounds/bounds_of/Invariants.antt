use Rattle.std.proofs.Common.{take}
use Rattle.lt_input_values.specs.Finding.{HasBounds}
use Rattle.lt_input_values.proofs.bounds.bounds_of.Given as goal

abbrev pub invariant-loop-range : goal.invariant-loop-range
invariant-loop-range l = HasBounds (take l.range-index l.ranges) l.bounds
