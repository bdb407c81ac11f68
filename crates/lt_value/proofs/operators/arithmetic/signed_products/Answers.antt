use Rattle.lt_model.proofs.Ranges.{signed_abs}
use Rattle.lt_value.specs.Entry.{written}
use Rattle.lt_value.specs.Table.{product, product_row}
use Rattle.lt_value.proofs.Made.{AreFour, made_some, made_none, product_made, product_step_small, step_narrow, signed_size, value_size, small_fits, least_span, greatest_span, least_small, same_size}
use Rattle.lt_value.proofs.operators.arithmetic.signed_products.Goals as goal

pub product-first-requires-clause-left : goal.product-first-requires-clause-left
product-first-requires-clause-left c = signed_size c.args.model c.args.ty c.args.a.now.lo c.requires.signed c.requires.taken.left_lo

pub product-first-requires-clause-right : goal.product-first-requires-clause-right
product-first-requires-clause-right c = signed_size c.args.model c.args.ty c.args.b.now.lo c.requires.signed c.requires.taken.right_lo

pub product-second-requires-clause-left : goal.product-second-requires-clause-left
product-second-requires-clause-left c = signed_size c.args.model c.args.ty c.args.a.now.lo c.requires.signed c.requires.taken.left_lo

pub product-second-requires-clause-right : goal.product-second-requires-clause-right
product-second-requires-clause-right c = signed_size c.args.model c.args.ty c.args.b.now.hi c.requires.signed c.requires.taken.right_hi

pub product-third-requires-clause-left : goal.product-third-requires-clause-left
product-third-requires-clause-left c = signed_size c.args.model c.args.ty c.args.a.now.hi c.requires.signed c.requires.taken.left_hi

pub product-third-requires-clause-right : goal.product-third-requires-clause-right
product-third-requires-clause-right c = signed_size c.args.model c.args.ty c.args.b.now.lo c.requires.signed c.requires.taken.right_lo

pub product-fourth-requires-clause-left : goal.product-fourth-requires-clause-left
product-fourth-requires-clause-left c = signed_size c.args.model c.args.ty c.args.a.now.hi c.requires.signed c.requires.taken.left_hi

pub product-fourth-requires-clause-right : goal.product-fourth-requires-clause-right
product-fourth-requires-clause-right c = signed_size c.args.model c.args.ty c.args.b.now.hi c.requires.signed c.requires.taken.right_hi

pub product_step-requires-clause-left_step : goal.product_step-requires-clause-left_step
product_step-requires-clause-left_step c = step_narrow c.args.model c.args.ty c.args.a.now c.requires.taken.left_lo c.requires.taken.left_hi

pub product_step-requires-clause-right_step : goal.product_step-requires-clause-right_step
product_step-requires-clause-right_step c = step_narrow c.args.model c.args.ty c.args.b.now c.requires.taken.right_lo c.requires.taken.right_hi

pub product_step-requires-clause-left : goal.product_step-requires-clause-left
product_step-requires-clause-left c = value_size c.args.model c.args.ty c.args.a.now.lo c.requires.taken.left_lo

pub product_step-requires-clause-right : goal.product_step-requires-clause-right
product_step-requires-clause-right c = value_size c.args.model c.args.ty c.args.b.now.lo c.requires.taken.right_lo

pub settle-requires-clause-step : goal.settle-requires-clause-step
settle-requires-clause-step c =
    let t = c.requires.taken in
    product_step_small c.args.a.now c.args.b.now c.product_step.result c.product_step.ensures
    (step_narrow c.args.model c.args.ty c.args.a.now t.left_lo t.left_hi) (step_narrow c.args.model c.args.ty c.args.b.now t.right_lo t.right_hi)
    (signed_abs c.args.model c.args.ty c.args.a.now.lo c.requires.signed t.left_lo) (signed_abs c.args.model c.args.ty c.args.b.now.lo c.requires.signed t.right_lo)

pub settle-requires-clause-lo : goal.settle-requires-clause-lo
settle-requires-clause-lo c =
    let low = least_small c.product-first.result c.product-second.result c.product-third.result c.product-fourth.result c.span_of-span.result.lo c.span_of-span.ensures.lo c.product-first.ensures.small c.product-second.ensures.small c.product-third.ensures.small c.product-fourth.ensures.small in
    same_size c.span_of-span.result.lo low

four : (c : goal.After-settle) → AreFour product c.args.a.now c.args.b.now c.product-first.result c.product-second.result c.product-third.result c.product-fourth.result
four c = record {
  first = c.product-first.ensures.is;
  second = c.product-second.ensures.is;
  third = c.product-third.ensures.is;
  fourth = c.product-fourth.ensures.is;
  first_fits = small_fits _ c.product-first.ensures.small;
  second_fits = small_fits _ c.product-second.ensures.small;
  third_fits = small_fits _ c.product-third.ensures.small;
  fourth_fits = small_fits _ c.product-fourth.ensures.small;
}

pub returns-clause-some : goal.returns-clause-some
returns-clause-some c =
    let a = c.args.a.now in
    let b = c.args.b.now in
    made_some c.args.model c.args.ty (product_row (written a) (written b)) _ _ c.product_step.result c.settle.result
    (product_made a b _ _ _ (least_span product a b _ _ _ _ c.span_of-span.result.lo (four c) c.span_of-span.ensures.lo) (greatest_span product a b _ _ _ _ c.span_of-span.result.hi (four c) c.span_of-span.ensures.hi) c.product_step.ensures)
    c.settle.ensures.some

pub returns-clause-none : goal.returns-clause-none
returns-clause-none c =
    let a = c.args.a.now in
    let b = c.args.b.now in
    made_none c.args.model c.args.ty (product_row (written a) (written b)) _ _ c.product_step.result c.settle.result
    (product_made a b _ _ _ (least_span product a b _ _ _ _ c.span_of-span.result.lo (four c) c.span_of-span.ensures.lo) (greatest_span product a b _ _ _ _ c.span_of-span.result.hi (four c) c.span_of-span.ensures.hi) c.product_step.ensures)
    c.settle.ensures.none
