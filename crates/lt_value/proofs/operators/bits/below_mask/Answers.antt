use Rattle.std.proofs.Common.{arith}
use Rattle.std.proofs.lemmas.Int.{ints}
use Rattle.lt_model.proofs.Ranges.{bounds_of}
use Rattle.lt_value.proofs.MadeBits.{mask_below, mask_code, or_both, or_first_negative, or_second_negative}
use Rattle.lt_value.proofs.operators.bits.below_mask.Goals as goal

pub mask-requires-clause-below : goal.mask-requires-clause-below
mask-requires-clause-below c =
    let r = c.requires in
    mask_below c.args.model c.args.ty c.args.a.now c.args.b.now c.max.result (record { first = r.left_lo; last = r.left_hi }) (record { first = r.right_lo; last = r.right_hi }) c.max.ensures.value

pub between-requires-clause-greatest : goal.between-requires-clause-greatest
between-requires-clause-greatest c =
    let r = c.requires in
    let k = mask_code c.args.model c.args.ty c.args.a.now c.args.b.now c.max.result c.mask.result c.is_natural.result (record { first = r.left_lo; last = r.left_hi }) (record { first = r.right_lo; last = r.right_hi }) c.is_natural.ensures c.if-is_natural.true c.max.ensures.value c.mask.ensures in
    omega (arith, ints, k.0, k.1, (bounds_of c.args.model c.args.ty).high)

pub between-requires-clause-ordered : goal.between-requires-clause-ordered
between-requires-clause-ordered c =
    let r = c.requires in
    let k = mask_code c.args.model c.args.ty c.args.a.now c.args.b.now c.max.result c.mask.result c.is_natural.result (record { first = r.left_lo; last = r.left_hi }) (record { first = r.right_lo; last = r.right_hi }) c.is_natural.ensures c.if-is_natural.true c.max.ensures.value c.mask.ensures in
    omega (arith, ints, k.0)

pub returns-then-is_natural-2 : goal.returns-then-is_natural-2
returns-then-is_natural-2 c =
    let r = c.requires in
    or_both c.args.model c.args.ty c.args.a.now c.args.b.now c.between.result _ c.is_natural.result c.is_natural-then-is_natural.result
    c.is_natural.ensures c.if-is_natural.true c.is_natural-then-is_natural.ensures c.if-is_natural-2.true
    (mask_code c.args.model c.args.ty c.args.a.now c.args.b.now c.max.result c.mask.result c.is_natural.result (record { first = r.left_lo; last = r.left_hi }) (record { first = r.right_lo; last = r.right_hi }) c.is_natural.ensures c.if-is_natural.true c.max.ensures.value c.mask.ensures) c.between.ensures

pub returns-else-is_natural-2 : goal.returns-else-is_natural-2
returns-else-is_natural-2 c = or_second_negative c.args.model c.args.ty c.args.a.now c.args.b.now c.range.result c.is_natural.result c.is_natural-then-is_natural.result c.is_natural.ensures c.if-is_natural.true c.is_natural-then-is_natural.ensures c.if-is_natural-2.false c.range.ensures

pub returns-else-is_natural : goal.returns-else-is_natural
returns-else-is_natural c = or_first_negative c.args.model c.args.ty c.args.a.now c.args.b.now c.range-else-is_natural.result c.is_natural.result c.is_natural.ensures c.if-is_natural.false c.range-else-is_natural.ensures
