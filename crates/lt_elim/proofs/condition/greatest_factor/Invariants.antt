use Rattle.std.proofs.Common.{◌≡◌, ◌≤◌, ◌^◌, drop, length}
use Rattle.lt_elim.specs.Condition.{greatest_factor}
use Rattle.lt_elim.proofs.condition.greatest_factor.Given as goal

abbrev pub invariant-terms : goal.invariant-terms
invariant-terms l = record {
  within : l.i ≤ length l.terms;
  size : l.size ≡ greatest_factor (drop l.i l.terms);
  bound : l.size ≤ 2 ^ 127;
}

abbrev pub decreases-terms : goal.decreases-terms
decreases-terms l = l.i
