use Rattle.std.specs.Int.{w128}
use Rattle.std.proofs.lemmas.Int.{to_z-of_z}
use Rattle.lt_value.proofs.Members.{hi_fits}
use Rattle.lt_value.proofs.MadeBits.{and_both, and_left_only, and_right_only, and_neither, min_code}
use Rattle.lt_value.proofs.operators.bits.below_both.Goals as goal

pub returns-then-is_natural-2 : goal.returns-then-is_natural-2
returns-then-is_natural-2 c =
    let r = c.requires in
    and_both c.args.model c.args.ty c.args.a.now c.args.b.now c.between.result _ c.is_natural.result c.is_natural-then-is_natural.result (record { first = r.left_lo; last = r.left_hi })
    c.is_natural.ensures c.if-is_natural.true c.is_natural-then-is_natural.ensures c.if-is_natural-2.true (min_code c.args.a.now c.args.b.now c.min.result c.min.ensures.value) c.between.ensures

pub returns-else-is_natural-2 : goal.returns-else-is_natural-2
returns-else-is_natural-2 c =
    let r = c.requires in
    and_left_only c.args.model c.args.ty c.args.a.now c.args.b.now c.between-else-is_natural-2.result _ c.is_natural.result c.is_natural-then-is_natural.result (record { first = r.left_lo; last = r.left_hi })
    c.is_natural.ensures c.if-is_natural.true c.is_natural-then-is_natural.ensures c.if-is_natural-2.false (to_z-of_z w128 _ (hi_fits c.args.a.now)) c.between-else-is_natural-2.ensures

pub returns-then-is_natural-3 : goal.returns-then-is_natural-3
returns-then-is_natural-3 c =
    let r = c.requires in
    and_right_only c.args.model c.args.ty c.args.a.now c.args.b.now c.between-then-is_natural-3.result _ c.is_natural.result c.is_natural-else-is_natural.result (record { first = r.right_lo; last = r.right_hi })
    c.is_natural.ensures c.if-is_natural.false c.is_natural-else-is_natural.ensures c.if-is_natural-3.true (to_z-of_z w128 _ (hi_fits c.args.b.now)) c.between-then-is_natural-3.ensures

pub returns-else-is_natural-3 : goal.returns-else-is_natural-3
returns-else-is_natural-3 c =
    and_neither c.args.model c.args.ty c.args.a.now c.args.b.now c.range.result c.is_natural.result c.is_natural-else-is_natural.result
    c.is_natural.ensures c.if-is_natural.false c.is_natural-else-is_natural.ensures c.if-is_natural-3.false c.range.ensures
