use Rattle.std.proofs.Common.{suc}
use Rattle.lt_address.proofs.Comparing.{comparing_along, comparing_next}
use Rattle.lt_address.proofs.order.targets_below.Goals as goal

pub targets-preserved : goal.targets-preserved
targets-preserved c =
    let t = c.in-Some.target.now in
    let (low, so) = c.targets.invariant in
    (suc t.block, comparing_next _ _ _ _ _ t low _ (comparing_along _ _ _ _ _ t low c.in-Some.ensures.cases.0 so) c.seek-offsets.ensures.found (c.numbers_below.ensures.0 c.if-not-numbers_below.false))
