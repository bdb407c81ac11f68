use Rattle.lt_address.proofs.Parts.{marks_of, numbers_of, targets_of, below_by_parts, fails_by}
use Rattle.lt_address.proofs.order.is_value_below.Goals as goal

pub returns-then-not-marks_below : goal.returns-then-not-marks_below
returns-then-not-marks_below c = fails_by c.marks_below.result c.if-not-marks_below.true c.marks_below.ensures.1 (marks_of c.args.a.now c.args.b.now)

pub returns-then-not-numbers_below : goal.returns-then-not-numbers_below
returns-then-not-numbers_below c = fails_by c.numbers_below.result c.if-not-numbers_below.true c.numbers_below.ensures.1 (numbers_of c.args.a.now c.args.b.now)

pub returns : goal.returns
returns c =
    let within = rw (c.as_slice.ensures.value, c.as_slice-2.ensures.value) at c.targets_below.ensures in (
      λ h. below_by_parts c.args.a.now c.args.b.now (c.marks_below.ensures.0 c.if-not-marks_below.false) (c.numbers_below.ensures.0 c.if-not-numbers_below.false) (within.0 h),
      λ h. within.1 (targets_of c.args.a.now c.args.b.now h),
    )
