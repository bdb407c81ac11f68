use Rattle.std.proofs.Common.{◌≡◌, ℤ, take}
use Rattle.lt_input_values.specs.Finding.{is_within, may_give}
use Rattle.lt_input_values.proofs.bounds.bounds_for.Given as goal

abbrev pub invariant-loop-range : goal.invariant-loop-range
invariant-loop-range l = (z : ℤ) → is_within l.bounds z ≡ may_give (take l.range-index l.ranges) l.name z
