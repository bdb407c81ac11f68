use Rattle.std.proofs.Common.{◌≡◌, length}
use Rattle.lt_copies.specs.Blocks.{closed}
use Rattle.lt_copies.proofs.blocks.Blocks.close.Given as goal

abbrev pub invariant-ended : goal.invariant-ended
invariant-ended l = closed l.count l.self ≡ closed l.count l.initial.self

abbrev pub decreases-ended : goal.decreases-ended
decreases-ended l = length l.self.behind
