use Rattle.std.proofs.Common.{arith}
use Rattle.std.specs.Int.{w128}
use Rattle.std.proofs.lemmas.Int.{to_z-of_z}
use Rattle.lt_value.proofs.Members.{lo_fits, hi_fits, step_fits}
use Rattle.lt_value.proofs.Roundings.{member_rounded, rounded_as, some_rounded, low_fits, high_fits}
use Rattle.lt_value.proofs.rounding.round.Goals as goal

pub congruent-requires-clause-step : goal.congruent-requires-clause-step
congruent-requires-clause-step c = omega (arith, step_fits c.args.n.now)

pub unreachable-requires : goal.unreachable-requires
unreachable-requires c =
    let n = c.args.n.now in
    let p = rw (to_z-of_z w128 n.lo (lo_fits n)) at c.low_end-low.ensures in
    let q = rw (to_z-of_z w128 n.hi (hi_fits n)) at c.high_end-high.ensures in
    c.in-None.ensures.none n.lo (some_rounded c.args.thresholds.now n _ _ _ _ _ (to_z-of_z w128 _ (low_fits c.args.thresholds.now n _ p)) (to_z-of_z w128 _ (high_fits c.args.thresholds.now n _ q)) (to_z-of_z w128 n.lo (lo_fits n)) p q)

pub returns-clause-exactly : goal.returns-clause-exactly
returns-clause-exactly c =
    let n = c.args.n.now in
    let p = rw (to_z-of_z w128 n.lo (lo_fits n)) at c.low_end-low.ensures in
    let q = rw (to_z-of_z w128 n.hi (hi_fits n)) at c.high_end-high.ensures in
    rounded_as c.args.thresholds.now n c.in-Some.rounded _ _ _ _ _ (to_z-of_z w128 _ (low_fits c.args.thresholds.now n _ p)) (to_z-of_z w128 _ (high_fits c.args.thresholds.now n _ q)) (to_z-of_z w128 n.lo (lo_fits n)) p q c.in-Some.ensures.some

pub returns-clause-above : goal.returns-clause-above
returns-clause-above c = λ z h.
    let n = c.args.n.now in
    let p = rw (to_z-of_z w128 n.lo (lo_fits n)) at c.low_end-low.ensures in
    let q = rw (to_z-of_z w128 n.hi (hi_fits n)) at c.high_end-high.ensures in
    ((returns-clause-exactly c) z).1 (member_rounded c.args.thresholds.now n _ _ z p q h)
