use Rattle.std.proofs.Common.{rules, arith, ◌∙◌}
use Rattle.std.specs.Int.{w128}
use mir.Val.{SFits}
use Rattle.std.proofs.lemmas.Int.{ints, clamps, to_z-of_z}
use Rattle.lt_model.proofs.Ranges.{bounds_of}
use Rattle.lt_value.proofs.Cuts.{if_none_of}
use Rattle.lt_value.proofs.MadeSettled.{low_code, high_code}
use Rattle.lt_value.proofs.MadeQuotients.{quotients_some, quotients_none, no_quotients}
use Rattle.lt_value.proofs.operators.division.quotients.Goals as goal

pub returns-in_err-span-clause-none : goal.returns-in_err-span-clause-none
returns-in_err-span-clause-none c = if_none_of _ c.from_residual.result (no_quotients c.args.model c.args.ty c.args.a.now c.args.b.now c.in_err-span.ensures.none)

pub congruent-requires-clause-least : goal.congruent-requires-clause-least
congruent-requires-clause-least c =
    let f : SFits w128 c.in_ok-span.span.lo = search rules in
    let low = low_code c.args.model c.args.ty c.in_ok-span.span.lo c.least.result c.max-lo.result f c.least.ensures c.max-lo.ensures.value in
    omega (arith, ints, clamps, to_z-of_z w128 c.max-lo.result low.1, low.0, (bounds_of c.args.model c.args.ty).low)

pub congruent-requires-clause-greatest : goal.congruent-requires-clause-greatest
congruent-requires-clause-greatest c =
    let f : SFits w128 c.in_ok-span.span.hi = search rules in
    let high = high_code c.args.model c.args.ty c.in_ok-span.span.hi c.greatest.result c.min-hi.result f c.greatest.ensures c.min-hi.ensures.value in
    omega (arith, ints, clamps, to_z-of_z w128 c.min-hi.result high.1, high.0, (bounds_of c.args.model c.args.ty).high)

pub returns-clause-some : goal.returns-clause-some
returns-clause-some c =
    let f : SFits w128 c.in_ok-span.span.lo = search rules in
    let g : SFits w128 c.in_ok-span.span.hi = search rules in
    let low = low_code c.args.model c.args.ty c.in_ok-span.span.lo c.least.result c.max-lo.result f c.least.ensures c.max-lo.ensures.value in
    let high = high_code c.args.model c.args.ty c.in_ok-span.span.hi c.greatest.result c.min-hi.result g c.greatest.ensures c.min-hi.ensures.value in
    quotients_some c.args.model c.args.ty c.args.a.now c.args.b.now c.in_ok-span.span.lo c.in_ok-span.span.hi _ _ c.congruent.result c.in_ok-span.ensures.some
    (to_z-of_z w128 c.max-lo.result low.1 ∙ low.0) (to_z-of_z w128 c.min-hi.result high.1 ∙ high.0) c.congruent.ensures.some

pub returns-clause-none : goal.returns-clause-none
returns-clause-none c =
    let f : SFits w128 c.in_ok-span.span.lo = search rules in
    let g : SFits w128 c.in_ok-span.span.hi = search rules in
    let low = low_code c.args.model c.args.ty c.in_ok-span.span.lo c.least.result c.max-lo.result f c.least.ensures c.max-lo.ensures.value in
    let high = high_code c.args.model c.args.ty c.in_ok-span.span.hi c.greatest.result c.min-hi.result g c.greatest.ensures c.min-hi.ensures.value in
    quotients_none c.args.model c.args.ty c.args.a.now c.args.b.now c.in_ok-span.span.lo c.in_ok-span.span.hi _ _ c.congruent.result c.in_ok-span.ensures.some
    (to_z-of_z w128 c.max-lo.result low.1 ∙ low.0) (to_z-of_z w128 c.min-hi.result high.1 ∙ high.0) c.congruent.ensures.none
