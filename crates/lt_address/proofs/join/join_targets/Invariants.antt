use Rattle.std.proofs.Common.{ℕ, ◌+◌, length}
use Rattle.lt_address.proofs.Merging.{IsMerging}
use Rattle.lt_address.proofs.join.join_targets.Given as goal

abbrev pub invariant-merge : goal.invariant-merge
invariant-merge l = (low : ℕ) × IsMerging l.a l.b l.left l.right l.out.items low

abbrev pub decreases-merge : goal.decreases-merge
decreases-merge l = length l.left + length l.right
