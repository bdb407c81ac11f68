use Rattle.std.proofs.Common.{rules, pos, get_or}
use Rattle.std.specs.Int.{w128}
use mir.Val.{SFits}
use Rattle.std.proofs.lemmas.Int.{to_z-of_z}
use Rattle.lt_value.proofs.Orders.{le_true, lt_true, lt_false}
use Rattle.lt_value.proofs.Ends.{high_stays, high_moves, high_taken, high_kept, unreached}
use Rattle.lt_value.proofs.rounding.high_end.Goals as goal
use Rattle.lt_value.proofs.rounding.high_end.Goals.{then-hi-t+then-t-high, else-hi-t, else-hi-t-via-then-hi-t+else-t-high, else-hi-t-via-else-hi-t}

pub returns-then-high-gt-GREATEST : goal.returns-then-high-gt-GREATEST
returns-then-high-gt-GREATEST c =
    let f : SFits w128 c.args.hi = c.ranges.hi in
    let so = rw (to_z-of_z w128 c.args.hi f) at c.loop-t.invariant in
    rw (to_z-of_z w128 c.args.hi f) (high_stays c.args.thresholds.now c.args.hi _ _ c.loop-t-test.false so (lt_true _ _ c.if-high-gt-GREATEST.true))

pub returns-else-high-gt-GREATEST : goal.returns-else-high-gt-GREATEST
returns-else-high-gt-GREATEST c =
    let f : SFits w128 c.args.hi = c.ranges.hi in
    let so = rw (to_z-of_z w128 c.args.hi f) at c.loop-t.invariant in
    high_moves c.args.thresholds.now c.args.hi _ _ c.loop-t-test.false c.requires so (lt_false _ _ c.if-high-gt-GREATEST.false)

pub loop-t-preserved : goal.loop-t-preserved
loop-t-preserved c =
    let e : SFits w128 (get_or c.args.thresholds.now c.loop-t.t-index (pos 0)) = search rules in
    let same = to_z-of_z w128 _ e in
    elim c.if-hi-t.branch [
      | then-hi-t+then-t-high w ↦ rw w.high-is (high_taken _ _ _ _ _ c.loop-t.invariant c.loop-t-test.true same (le_true _ _ w.if-hi-t.true) (lt_true _ _ w.if-t-high.true))
      | else-hi-t w ↦ rw w.high-is (elim w.else-hi-t.branch [
        | else-hi-t-via-then-hi-t+else-t-high v ↦ high_kept _ _ _ _ _ c.loop-t.invariant same (λ _. lt_false _ _ v.if-t-high.false)
        | else-hi-t-via-else-hi-t v ↦ high_kept _ _ _ _ _ c.loop-t.invariant same (unreached _ _ _ v.if-hi-t.false)
      ])
    ]
