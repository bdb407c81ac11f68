use Rattle.lt_value.specs.Entry.{written}
use Rattle.lt_value.specs.Table.{product_row}
use Rattle.std.proofs.Common.{pos, ◌*◌}
use Rattle.lt_value.proofs.Made.{IsMade, natural, natural_made, sizes_order, lo_size, hi_size, made_some, made_none, step_narrow}
use Rattle.lt_value.proofs.operators.arithmetic.unsigned_products.Goals as goal

pub product_step-requires-clause-left_step : goal.product_step-requires-clause-left_step
product_step-requires-clause-left_step c = step_narrow c.args.model c.args.ty c.args.a.now c.requires.taken.left_lo c.requires.taken.left_hi

pub product_step-requires-clause-right_step : goal.product_step-requires-clause-right_step
product_step-requires-clause-right_step c = step_narrow c.args.model c.args.ty c.args.b.now c.requires.taken.right_lo c.requires.taken.right_hi

pub settle_unsigned-requires-clause-ordered : goal.settle_unsigned-requires-clause-ordered
settle_unsigned-requires-clause-ordered c =
    let a = c.args.a.now in
    let b = c.args.b.now in
    let t = c.requires.taken in
    sizes_order a b _ _ _ _ (natural c.args.model c.args.ty a.lo c.requires.unsigned t.left_lo) (natural c.args.model c.args.ty b.lo c.requires.unsigned t.right_lo)
    (lo_size a _ c.unsigned_abs.ensures.value) (lo_size b _ c.unsigned_abs-2.ensures.value) (hi_size a _ c.unsigned_abs-3.ensures.value) (hi_size b _ c.unsigned_abs-4.ensures.value)

made : (c : goal.After-settle_unsigned) → IsMade (product_row (written c.args.a.now) (written c.args.b.now)) (pos (c.unsigned_abs.result * c.unsigned_abs-2.result)) (pos (c.unsigned_abs-3.result * c.unsigned_abs-4.result)) c.product_step.result
made c =
    let a = c.args.a.now in
    let b = c.args.b.now in
    let t = c.requires.taken in
    natural_made a b _ _ _ _ c.product_step.result (natural c.args.model c.args.ty a.lo c.requires.unsigned t.left_lo) (natural c.args.model c.args.ty b.lo c.requires.unsigned t.right_lo)
    (lo_size a _ c.unsigned_abs.ensures.value) (lo_size b _ c.unsigned_abs-2.ensures.value) (hi_size a _ c.unsigned_abs-3.ensures.value) (hi_size b _ c.unsigned_abs-4.ensures.value) c.product_step.ensures

pub returns-clause-some : goal.returns-clause-some
returns-clause-some c = made_some c.args.model c.args.ty (product_row (written c.args.a.now) (written c.args.b.now)) _ _ c.product_step.result c.settle_unsigned.result (made c) c.settle_unsigned.ensures.some

pub returns-clause-none : goal.returns-clause-none
returns-clause-none c = made_none c.args.model c.args.ty (product_row (written c.args.a.now) (written c.args.b.now)) _ _ c.product_step.result c.settle_unsigned.result (made c) c.settle_unsigned.ensures.none
