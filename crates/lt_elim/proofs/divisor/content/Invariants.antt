use Rattle.std.proofs.Common.{◌≡◌, ◌≤◌, drop, length}
use Rattle.lt_elim.specs.Divisor.{content}
use Rattle.lt_elim.proofs.divisor.content.Given as goal

abbrev pub invariant-terms : goal.invariant-terms
invariant-terms l = record {
  within : l.i ≤ length l.terms;
  divisor : l.divisor ≡ content (drop l.i l.terms);
}

abbrev pub decreases-terms : goal.decreases-terms
decreases-terms l = l.i
