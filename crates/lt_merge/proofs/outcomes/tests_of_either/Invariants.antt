use Rattle.std.proofs.Common.{◌+◌, length}
use Rattle.lt_merge.proofs.TestWalks.{IsTestWalk}
use Rattle.lt_merge.proofs.outcomes.tests_of_either.Given as goal

abbrev pub invariant-walk : goal.invariant-walk
invariant-walk l = IsTestWalk l.a l.b l.tests.items l.left l.right

abbrev pub decreases-walk : goal.decreases-walk
decreases-walk l = length l.left + length l.right
