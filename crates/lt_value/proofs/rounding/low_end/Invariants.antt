use Rattle.lt_value.proofs.Ends.{IsLowSoFar}
use Rattle.lt_value.proofs.rounding.low_end.Given as goal

abbrev pub invariant-loop-t : goal.invariant-loop-t
invariant-loop-t l = IsLowSoFar l.thresholds l.lo l.t-index l.low
