use Rattle.std.proofs.Common.{arith}
use Rattle.lt_cover.proofs.Rests.{mark_cut, mark_kept}
use Rattle.lt_cover.proofs.records.without_mark.Goals as goal
use Rattle.lt_cover.proofs.records.without_mark.Goals.{else-text-ge3-via-then-text-ge3+then-text+then-text-2+else-text-3, else-text-ge3-via-then-text-ge3+then-text+else-text-2, else-text-ge3-via-then-text-ge3+else-text, else-text-ge3-via-else-text-ge3}

pub returns-then-text-3 : goal.returns-then-text-3
returns-then-text-3 c = mark_cut c.args.text.now c.if-text-ge3.true c.if-text.true c.if-text-2.true c.if-text-3.true

pub returns-else-text-ge3 : goal.returns-else-text-ge3
returns-else-text-ge3 c =
    mark_kept c.args.text.now
    (λ long first second third. elim c.else-text-ge3.branch [
      | else-text-ge3-via-then-text-ge3+then-text+then-text-2+else-text-3 w ↦ w.if-text-3.false third
      | else-text-ge3-via-then-text-ge3+then-text+else-text-2 w ↦ w.if-text-2.false second
      | else-text-ge3-via-then-text-ge3+else-text w ↦ w.if-text.false first
      | else-text-ge3-via-else-text-ge3 w ↦ absurd (omega (arith, w.if-text-ge3.false, long))
    ])
