use Rattle.std.proofs.Common.{arith, ◌^◌}
use Rattle.std.specs.Int.{w128}
use Rattle.std.proofs.lemmas.Int.{to_z-of_z}
use Rattle.lt_value.specs.Entry.{written}
use Rattle.lt_value.specs.Table.{greatest_remainder, low_remainder, high_remainder}
use Rattle.lt_value.proofs.Members.{lo_fits, hi_fits, step_fits}
use Rattle.lt_value.proofs.Made.{gcd_below, value_size, lo_size}
use Rattle.lt_value.proofs.MadeQuotients.{remainder_code, low_bound, high_bound, by_single, by_several, remaining_some, remaining_none, gcd_as}
use Rattle.lt_value.proofs.operators.division.remainders.Goals as goal

pub congruent-requires-clause-least : goal.congruent-requires-clause-least
congruent-requires-clause-least c =
    let lo = remainder_code low_remainder c.args.a.now.lo (greatest_remainder (written c.args.b.now)) c.most_left-most.result c.lowest-lo.result (lo_fits c.args.a.now) (record { sfits = c.lowest-lo.type_inv }) c.most_left-most.ensures.small c.most_left-most.ensures.is c.lowest-lo.ensures in
    let hi = remainder_code high_remainder c.args.a.now.hi (greatest_remainder (written c.args.b.now)) c.most_left-most.result c.highest-hi.result (hi_fits c.args.a.now) (record { sfits = c.highest-hi.type_inv }) c.most_left-most.ensures.small c.most_left-most.ensures.is c.highest-hi.ensures in
    low_bound c.args.model c.args.ty c.args.a.now.lo (greatest_remainder (written c.args.b.now)) _ c.requires.left_lo lo

pub congruent-requires-clause-greatest : goal.congruent-requires-clause-greatest
congruent-requires-clause-greatest c =
    let lo = remainder_code low_remainder c.args.a.now.lo (greatest_remainder (written c.args.b.now)) c.most_left-most.result c.lowest-lo.result (lo_fits c.args.a.now) (record { sfits = c.lowest-lo.type_inv }) c.most_left-most.ensures.small c.most_left-most.ensures.is c.lowest-lo.ensures in
    let hi = remainder_code high_remainder c.args.a.now.hi (greatest_remainder (written c.args.b.now)) c.most_left-most.result c.highest-hi.result (hi_fits c.args.a.now) (record { sfits = c.highest-hi.type_inv }) c.most_left-most.ensures.small c.most_left-most.ensures.is c.highest-hi.ensures in
    high_bound c.args.model c.args.ty c.args.a.now.hi (greatest_remainder (written c.args.b.now)) _ c.requires.left_hi hi

pub congruent-requires-else-b-eq0-clause-least : goal.congruent-requires-else-b-eq0-clause-least
congruent-requires-else-b-eq0-clause-least c =
    let lo = remainder_code low_remainder c.args.a.now.lo (greatest_remainder (written c.args.b.now)) c.most_left-most.result c.lowest-lo.result (lo_fits c.args.a.now) (record { sfits = c.lowest-lo.type_inv }) c.most_left-most.ensures.small c.most_left-most.ensures.is c.lowest-lo.ensures in
    let hi = remainder_code high_remainder c.args.a.now.hi (greatest_remainder (written c.args.b.now)) c.most_left-most.result c.highest-hi.result (hi_fits c.args.a.now) (record { sfits = c.highest-hi.type_inv }) c.most_left-most.ensures.small c.most_left-most.ensures.is c.highest-hi.ensures in
    low_bound c.args.model c.args.ty c.args.a.now.lo (greatest_remainder (written c.args.b.now)) _ c.requires.left_lo lo

pub congruent-requires-else-b-eq0-clause-greatest : goal.congruent-requires-else-b-eq0-clause-greatest
congruent-requires-else-b-eq0-clause-greatest c =
    let lo = remainder_code low_remainder c.args.a.now.lo (greatest_remainder (written c.args.b.now)) c.most_left-most.result c.lowest-lo.result (lo_fits c.args.a.now) (record { sfits = c.lowest-lo.type_inv }) c.most_left-most.ensures.small c.most_left-most.ensures.is c.lowest-lo.ensures in
    let hi = remainder_code high_remainder c.args.a.now.hi (greatest_remainder (written c.args.b.now)) c.most_left-most.result c.highest-hi.result (hi_fits c.args.a.now) (record { sfits = c.highest-hi.type_inv }) c.most_left-most.ensures.small c.most_left-most.ensures.is c.highest-hi.ensures in
    high_bound c.args.model c.args.ty c.args.a.now.hi (greatest_remainder (written c.args.b.now)) _ c.requires.left_hi hi

pub congruent-requires-clause-step : goal.congruent-requires-clause-step
congruent-requires-clause-step c =
    let size = value_size c.args.model c.args.ty c.args.b.now.lo c.requires.right_lo in
    let is = lo_size c.args.b.now c.unsigned_abs.result c.unsigned_abs.ensures.value in
    let below = gcd_below _ _ _ (2 ^ 66) c.gcd.ensures (step_fits c.args.a.now) (omega arith) in
    omega arith

pub returns-then-b-eq0-clause-some : goal.returns-then-b-eq0-clause-some
returns-then-b-eq0-clause-some c =
    let lo = remainder_code low_remainder c.args.a.now.lo (greatest_remainder (written c.args.b.now)) c.most_left-most.result c.lowest-lo.result (lo_fits c.args.a.now) (record { sfits = c.lowest-lo.type_inv }) c.most_left-most.ensures.small c.most_left-most.ensures.is c.lowest-lo.ensures in
    let hi = remainder_code high_remainder c.args.a.now.hi (greatest_remainder (written c.args.b.now)) c.most_left-most.result c.highest-hi.result (hi_fits c.args.a.now) (record { sfits = c.highest-hi.type_inv }) c.most_left-most.ensures.small c.most_left-most.ensures.is c.highest-hi.ensures in
    remaining_some c.args.model c.args.ty c.args.a.now c.args.b.now _ _ _ c.gcd.result c.congruent.result c.requires.left_lo c.requires.left_hi
    (by_single c.args.a.now c.args.b.now _ _ _ c.gcd.result c.if-b-eq0.true lo hi (gcd_as _ _ _ _ (lo_size c.args.b.now c.unsigned_abs.result c.unsigned_abs.ensures.value) c.gcd.ensures) (to_z-of_z w128 _ (lo_fits c.args.a.now)))
    c.congruent.ensures.some

pub returns-else-b-eq0-clause-some : goal.returns-else-b-eq0-clause-some
returns-else-b-eq0-clause-some c =
    let lo = remainder_code low_remainder c.args.a.now.lo (greatest_remainder (written c.args.b.now)) c.most_left-most.result c.lowest-lo.result (lo_fits c.args.a.now) (record { sfits = c.lowest-lo.type_inv }) c.most_left-most.ensures.small c.most_left-most.ensures.is c.lowest-lo.ensures in
    let hi = remainder_code high_remainder c.args.a.now.hi (greatest_remainder (written c.args.b.now)) c.most_left-most.result c.highest-hi.result (hi_fits c.args.a.now) (record { sfits = c.highest-hi.type_inv }) c.most_left-most.ensures.small c.most_left-most.ensures.is c.highest-hi.ensures in
    remaining_some c.args.model c.args.ty c.args.a.now c.args.b.now _ _ _ 1 c.congruent-else-b-eq0.result c.requires.left_lo c.requires.left_hi
    (by_several c.args.a.now c.args.b.now _ _ c.if-b-eq0.false lo hi)
    c.congruent-else-b-eq0.ensures.some

pub returns-then-b-eq0-clause-none : goal.returns-then-b-eq0-clause-none
returns-then-b-eq0-clause-none c =
    let lo = remainder_code low_remainder c.args.a.now.lo (greatest_remainder (written c.args.b.now)) c.most_left-most.result c.lowest-lo.result (lo_fits c.args.a.now) (record { sfits = c.lowest-lo.type_inv }) c.most_left-most.ensures.small c.most_left-most.ensures.is c.lowest-lo.ensures in
    let hi = remainder_code high_remainder c.args.a.now.hi (greatest_remainder (written c.args.b.now)) c.most_left-most.result c.highest-hi.result (hi_fits c.args.a.now) (record { sfits = c.highest-hi.type_inv }) c.most_left-most.ensures.small c.most_left-most.ensures.is c.highest-hi.ensures in
    remaining_none c.args.model c.args.ty c.args.a.now c.args.b.now _ _ _ c.gcd.result c.congruent.result c.requires.left_lo c.requires.left_hi
    (by_single c.args.a.now c.args.b.now _ _ _ c.gcd.result c.if-b-eq0.true lo hi (gcd_as _ _ _ _ (lo_size c.args.b.now c.unsigned_abs.result c.unsigned_abs.ensures.value) c.gcd.ensures) (to_z-of_z w128 _ (lo_fits c.args.a.now)))
    c.congruent.ensures.none

pub returns-else-b-eq0-clause-none : goal.returns-else-b-eq0-clause-none
returns-else-b-eq0-clause-none c =
    let lo = remainder_code low_remainder c.args.a.now.lo (greatest_remainder (written c.args.b.now)) c.most_left-most.result c.lowest-lo.result (lo_fits c.args.a.now) (record { sfits = c.lowest-lo.type_inv }) c.most_left-most.ensures.small c.most_left-most.ensures.is c.lowest-lo.ensures in
    let hi = remainder_code high_remainder c.args.a.now.hi (greatest_remainder (written c.args.b.now)) c.most_left-most.result c.highest-hi.result (hi_fits c.args.a.now) (record { sfits = c.highest-hi.type_inv }) c.most_left-most.ensures.small c.most_left-most.ensures.is c.highest-hi.ensures in
    remaining_none c.args.model c.args.ty c.args.a.now c.args.b.now _ _ _ 1 c.congruent-else-b-eq0.result c.requires.left_lo c.requires.left_hi
    (by_several c.args.a.now c.args.b.now _ _ c.if-b-eq0.false lo hi)
    c.congruent-else-b-eq0.ensures.none
