use Rattle.lt_value.proofs.Ends.{IsHighSoFar}
use Rattle.lt_value.proofs.rounding.high_end.Given as goal

abbrev pub invariant-loop-t : goal.invariant-loop-t
invariant-loop-t l = IsHighSoFar l.thresholds l.hi l.t-index l.high
