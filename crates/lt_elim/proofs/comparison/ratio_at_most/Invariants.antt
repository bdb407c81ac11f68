use Rattle.std.proofs.Common.{◌≡◌, ◌*◌, ◌+◌, ◌<◌}
use Rattle.std.specs.Prelude.{nat_le}
use Rattle.lt_elim.proofs.comparison.ratio_at_most.Given as goal

abbrev pub invariant-steps : goal.invariant-steps
invariant-steps l = record {
  same : nat_le (l.left * l.right_under) (l.right * l.left_under) ≡ nat_le (l.a * l.d) (l.c * l.b);
  some : l.b ≡ 0 → 0 < l.a;
}

abbrev pub decreases-steps : goal.decreases-steps
decreases-steps l = l.b + l.d
