use Rattle.std.proofs.Common.{arith, refl, ◌*◌, ◌≤◌, ◌^◌}
use Rattle.lt_model.proofs.Ranges.{signed_abs}
use Rattle.std.proofs.Common.{sym, ◌∙◌}
use Rattle.lt_value.specs.Entry.{written}
use Rattle.lt_value.specs.Table.{left_shift_row}
use Rattle.lt_value.proofs.Made.{made_some, made_none, step_narrow, lo_size, hi_size}
use Rattle.lt_value.proofs.MadeShifts.{low_power, high_power, left_made, left_order, left_small, as_signed, signed_fits, signed_size}
use Rattle.lt_value.proofs.operators.shift.left_shifts.Goals as goal

pub left_step-step-requires-clause-step : goal.left_step-step-requires-clause-step
left_step-step-requires-clause-step c = step_narrow c.args.model c.args.ty c.args.a.now c.requires.left_lo.0 c.requires.left_hi.0

low_small : (c : goal.Then-is_signed) → c.unsigned_abs.result * c.power_of-low.result ≤ 2 ^ 126
low_small c =
    let a = c.args.a.now in
    left_small _ _ (omega (arith, lo_size a c.unsigned_abs.result c.unsigned_abs.ensures.value, signed_abs c.args.model c.args.ty a.lo (sym c.is_signed.ensures ∙ c.if-is_signed.true) c.requires.left_lo.0)) c.power_of-low.ensures.small

high_small : (c : goal.Then-is_signed) → c.unsigned_abs-2.result * c.power_of-high.result ≤ 2 ^ 126
high_small c =
    let a = c.args.a.now in
    left_small _ _ (omega (arith, hi_size a c.unsigned_abs-2.result c.unsigned_abs-2.ensures.value, signed_abs c.args.model c.args.ty a.hi (sym c.is_signed.ensures ∙ c.if-is_signed.true) c.requires.left_hi.0)) c.power_of-high.ensures.small

pub overflow_cast-lo : goal.overflow_cast-lo
overflow_cast-lo c = signed_fits _ (low_small c)

pub overflow_cast-hi : goal.overflow_cast-hi
overflow_cast-hi c = signed_fits _ (high_small c)

pub settle-requires-clause-lo : goal.settle-requires-clause-lo
settle-requires-clause-lo c = signed_size _ (low_small c)

pub settle_unsigned-requires-clause-ordered : goal.settle_unsigned-requires-clause-ordered
settle_unsigned-requires-clause-ordered c =
    let a = c.args.a.now in
    let b = c.args.b.now in
    left_order a b _ _ _ _ c.requires.left_lo.1 c.requires.right_lo.0 (lo_size a _ c.unsigned_abs.ensures.value) (hi_size a _ c.unsigned_abs-2.ensures.value) (low_power b _ c.power_of-low.ensures.is) (high_power b _ c.power_of-high.ensures.is)

pub returns-then-is_signed-clause-some : goal.returns-then-is_signed-clause-some
returns-then-is_signed-clause-some c =
    let a = c.args.a.now in
    let b = c.args.b.now in
    let signed = sym c.is_signed.ensures ∙ c.if-is_signed.true in
    let low = left_small c.unsigned_abs.result c.power_of-low.result (omega (arith, lo_size a c.unsigned_abs.result c.unsigned_abs.ensures.value, signed_abs c.args.model c.args.ty a.lo signed c.requires.left_lo.0)) c.power_of-low.ensures.small in
    let high = left_small c.unsigned_abs-2.result c.power_of-high.result (omega (arith, hi_size a c.unsigned_abs-2.result c.unsigned_abs-2.ensures.value, signed_abs c.args.model c.args.ty a.hi signed c.requires.left_hi.0)) c.power_of-high.ensures.small in
    made_some c.args.model c.args.ty (left_shift_row (written a) (written b)) _ _ c.left_step-step.result c.settle.result
    (left_made a b _ _ _ _ c.left_step-step.result _ _ c.requires.left_lo.1 c.requires.right_lo.0 (lo_size a _ c.unsigned_abs.ensures.value) (hi_size a _ c.unsigned_abs-2.ensures.value) (low_power b _ c.power_of-low.ensures.is) (high_power b _ c.power_of-high.ensures.is) c.left_step-step.ensures.is (as_signed _ low) (as_signed _ high))
    c.settle.ensures.some

pub returns-then-is_signed-clause-none : goal.returns-then-is_signed-clause-none
returns-then-is_signed-clause-none c =
    let a = c.args.a.now in
    let b = c.args.b.now in
    let signed = sym c.is_signed.ensures ∙ c.if-is_signed.true in
    let low = left_small c.unsigned_abs.result c.power_of-low.result (omega (arith, lo_size a c.unsigned_abs.result c.unsigned_abs.ensures.value, signed_abs c.args.model c.args.ty a.lo signed c.requires.left_lo.0)) c.power_of-low.ensures.small in
    let high = left_small c.unsigned_abs-2.result c.power_of-high.result (omega (arith, hi_size a c.unsigned_abs-2.result c.unsigned_abs-2.ensures.value, signed_abs c.args.model c.args.ty a.hi signed c.requires.left_hi.0)) c.power_of-high.ensures.small in
    made_none c.args.model c.args.ty (left_shift_row (written a) (written b)) _ _ c.left_step-step.result c.settle.result
    (left_made a b _ _ _ _ c.left_step-step.result _ _ c.requires.left_lo.1 c.requires.right_lo.0 (lo_size a _ c.unsigned_abs.ensures.value) (hi_size a _ c.unsigned_abs-2.ensures.value) (low_power b _ c.power_of-low.ensures.is) (high_power b _ c.power_of-high.ensures.is) c.left_step-step.ensures.is (as_signed _ low) (as_signed _ high))
    c.settle.ensures.none

pub returns-else-is_signed-clause-some : goal.returns-else-is_signed-clause-some
returns-else-is_signed-clause-some c =
    let a = c.args.a.now in
    let b = c.args.b.now in
    made_some c.args.model c.args.ty (left_shift_row (written a) (written b)) _ _ c.left_step-step.result c.settle_unsigned.result
    (left_made a b _ _ _ _ c.left_step-step.result _ _ c.requires.left_lo.1 c.requires.right_lo.0 (lo_size a _ c.unsigned_abs.ensures.value) (hi_size a _ c.unsigned_abs-2.ensures.value) (low_power b _ c.power_of-low.ensures.is) (high_power b _ c.power_of-high.ensures.is) c.left_step-step.ensures.is refl refl)
    c.settle_unsigned.ensures.some

pub returns-else-is_signed-clause-none : goal.returns-else-is_signed-clause-none
returns-else-is_signed-clause-none c =
    let a = c.args.a.now in
    let b = c.args.b.now in
    made_none c.args.model c.args.ty (left_shift_row (written a) (written b)) _ _ c.left_step-step.result c.settle_unsigned.result
    (left_made a b _ _ _ _ c.left_step-step.result _ _ c.requires.left_lo.1 c.requires.right_lo.0 (lo_size a _ c.unsigned_abs.ensures.value) (hi_size a _ c.unsigned_abs-2.ensures.value) (low_power b _ c.power_of-low.ensures.is) (high_power b _ c.power_of-high.ensures.is) c.left_step-step.ensures.is refl refl)
    c.settle_unsigned.ensures.none
