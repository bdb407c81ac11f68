use Rattle.std.proofs.Common.{◌+◌, length}
use Rattle.lt_merge.proofs.NameWalks.{IsNameWalk}
use Rattle.lt_merge.proofs.union.names_of_either.Given as goal

abbrev pub invariant-walk : goal.invariant-walk
invariant-walk l = IsNameWalk l.a l.b l.names.items l.left l.right

abbrev pub decreases-walk : goal.decreases-walk
decreases-walk l = length l.left + length l.right
