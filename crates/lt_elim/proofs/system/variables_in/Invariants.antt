use Rattle.std.proofs.Common.{◌≡◌, ◌≤◌, ◌^◌, drop, length}
use Rattle.lt_elim.specs.Decision.{variables_in}
use Rattle.lt_elim.proofs.system.variables_in.Given as goal

abbrev pub invariant-terms : goal.invariant-terms
invariant-terms l = record {
  within : l.i ≤ length l.terms;
  count : l.count ≡ variables_in (drop l.i l.terms);
  bound : l.count ≤ 2 ^ 32;
}

abbrev pub decreases-terms : goal.decreases-terms
decreases-terms l = l.i
