use Rattle.std.proofs.Common.{length}
use Rattle.lt_address.proofs.Pointing.{IsSoughtSoFar}
use Rattle.lt_address.proofs.seek.seek.Given as goal

abbrev pub invariant-targets : goal.invariant-targets
invariant-targets l = IsSoughtSoFar l.targets l.rest l.block

abbrev pub decreases-targets : goal.decreases-targets
decreases-targets l = length l.rest
