use Rattle.std.proofs.Common.{ℕ, length}
use Rattle.lt_address.proofs.Comparing.{IsComparing}
use Rattle.lt_address.proofs.order.targets_below.Given as goal

abbrev pub invariant-targets : goal.invariant-targets
invariant-targets l = (low : ℕ) × IsComparing l.a l.b l.left l.right low

abbrev pub decreases-targets : goal.decreases-targets
decreases-targets l = length l.left
