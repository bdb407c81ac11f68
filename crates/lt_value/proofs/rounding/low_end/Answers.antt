use Rattle.std.specs.Int.{w128}
use mir.Val.{SFits}
use Rattle.std.proofs.lemmas.Int.{to_z-of_z}
use Rattle.lt_value.proofs.Orders.{lt_true, lt_false}
use Rattle.lt_value.proofs.Ends.{low_stays, low_moves}
use Rattle.lt_value.proofs.rounding.low_end.Goals as goal

pub returns-then-low-lt-LEAST : goal.returns-then-low-lt-LEAST
returns-then-low-lt-LEAST c =
    let f : SFits w128 c.args.lo = c.ranges.lo in
    let so = rw (to_z-of_z w128 c.args.lo f) at c.loop-t.invariant in
    rw (to_z-of_z w128 c.args.lo f) (low_stays c.args.thresholds.now c.args.lo _ _ c.loop-t-test.false so (lt_true _ _ c.if-low-lt-LEAST.true))

pub returns-else-low-lt-LEAST : goal.returns-else-low-lt-LEAST
returns-else-low-lt-LEAST c =
    let f : SFits w128 c.args.lo = c.ranges.lo in
    let so = rw (to_z-of_z w128 c.args.lo f) at c.loop-t.invariant in
    low_moves c.args.thresholds.now c.args.lo _ _ c.loop-t-test.false c.requires so (lt_false _ _ c.if-low-lt-LEAST.false)
