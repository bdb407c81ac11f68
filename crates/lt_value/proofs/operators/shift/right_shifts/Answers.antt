use Rattle.std.proofs.Common.{arith}
use Rattle.std.proofs.lemmas.Int.{ints}
use Rattle.lt_model.proofs.Ranges.{bounds_of}
use Rattle.lt_value.proofs.Made.{ones_made}
use Rattle.lt_value.proofs.MadeShifts.{lo_count, hi_count, right_span}
use Rattle.lt_value.proofs.operators.shift.right_shifts.Goals as goal

pub shifted-first-requires-clause-below : goal.shifted-first-requires-clause-below
shifted-first-requires-clause-below c = lo_count c.args.model c.args.ty c.args.b.now c.requires.right_lo

pub shifted-second-requires-clause-below : goal.shifted-second-requires-clause-below
shifted-second-requires-clause-below c = hi_count c.args.model c.args.ty c.args.b.now c.requires.right_hi

pub shifted-third-requires-clause-below : goal.shifted-third-requires-clause-below
shifted-third-requires-clause-below c = lo_count c.args.model c.args.ty c.args.b.now c.requires.right_lo

pub shifted-fourth-requires-clause-below : goal.shifted-fourth-requires-clause-below
shifted-fourth-requires-clause-below c = hi_count c.args.model c.args.ty c.args.b.now c.requires.right_hi

pub between-requires-clause-least : goal.between-requires-clause-least
between-requires-clause-least c =
    let h = right_span c.args.model c.args.ty c.args.a.now c.args.b.now _ _ _ _ c.span_of-span.result.lo c.span_of-span.result.hi c.requires
    (record {
      first = c.shifted-first.ensures;
      second = c.shifted-second.ensures;
      third = c.shifted-third.ensures;
      fourth = c.shifted-fourth.ensures;
      first_fits = record { sfits = c.shifted-first.type_inv };
      second_fits = record { sfits = c.shifted-second.type_inv };
      third_fits = record { sfits = c.shifted-third.type_inv };
      fourth_fits = record { sfits = c.shifted-fourth.type_inv };
    }) c.span_of-span.ensures.lo c.span_of-span.ensures.hi in
    omega (arith, ints, h.low, h.lo_is, (bounds_of c.args.model c.args.ty).low)

pub between-requires-clause-greatest : goal.between-requires-clause-greatest
between-requires-clause-greatest c =
    let h = right_span c.args.model c.args.ty c.args.a.now c.args.b.now _ _ _ _ c.span_of-span.result.lo c.span_of-span.result.hi c.requires
    (record {
      first = c.shifted-first.ensures;
      second = c.shifted-second.ensures;
      third = c.shifted-third.ensures;
      fourth = c.shifted-fourth.ensures;
      first_fits = record { sfits = c.shifted-first.type_inv };
      second_fits = record { sfits = c.shifted-second.type_inv };
      third_fits = record { sfits = c.shifted-third.type_inv };
      fourth_fits = record { sfits = c.shifted-fourth.type_inv };
    }) c.span_of-span.ensures.lo c.span_of-span.ensures.hi in
    omega (arith, ints, h.high, h.hi_is, (bounds_of c.args.model c.args.ty).high)

pub between-requires-clause-ordered : goal.between-requires-clause-ordered
between-requires-clause-ordered c =
    let h = right_span c.args.model c.args.ty c.args.a.now c.args.b.now _ _ _ _ c.span_of-span.result.lo c.span_of-span.result.hi c.requires
    (record {
      first = c.shifted-first.ensures;
      second = c.shifted-second.ensures;
      third = c.shifted-third.ensures;
      fourth = c.shifted-fourth.ensures;
      first_fits = record { sfits = c.shifted-first.type_inv };
      second_fits = record { sfits = c.shifted-second.type_inv };
      third_fits = record { sfits = c.shifted-third.type_inv };
      fourth_fits = record { sfits = c.shifted-fourth.type_inv };
    }) c.span_of-span.ensures.lo c.span_of-span.ensures.hi in
    h.ordered

pub returns-clause-some : goal.returns-clause-some
returns-clause-some c =
    let h = right_span c.args.model c.args.ty c.args.a.now c.args.b.now _ _ _ _ c.span_of-span.result.lo c.span_of-span.result.hi c.requires
    (record {
      first = c.shifted-first.ensures;
      second = c.shifted-second.ensures;
      third = c.shifted-third.ensures;
      fourth = c.shifted-fourth.ensures;
      first_fits = record { sfits = c.shifted-first.type_inv };
      second_fits = record { sfits = c.shifted-second.type_inv };
      third_fits = record { sfits = c.shifted-third.type_inv };
      fourth_fits = record { sfits = c.shifted-fourth.type_inv };
    }) c.span_of-span.ensures.lo c.span_of-span.ensures.hi in
    ones_made c.args.model c.args.ty c.between.result _ _ _ _ h.low h.high h.lo_is h.hi_is c.between.ensures
