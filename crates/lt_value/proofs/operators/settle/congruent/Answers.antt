use Rattle.std.proofs.Common.{arith, ◌<ℤ◌, ◌⊎◌, inl, inr}
use Rattle.std.specs.Int.{w128}
use mir.Val.{SFits}
use Rattle.std.proofs.lemmas.Int.{ints, to_z-of_z}
use Rattle.lt_value.specs.Entry.{IsSkip}
use Rattle.lt_value.proofs.Settling.{from_first, none_from_first, rest_alone, no_rest}
use Rattle.lt_value.proofs.MadeSettled.{first_code}
use Rattle.lt_value.proofs.operators.settle.congruent.Goals as goal
use Rattle.lt_value.proofs.operators.settle.congruent.Goals.{else-lo-rest-via-then-lo-rest+else-rest-hi, else-lo-rest-via-else-lo-rest}

pub returns-then-rest-hi-clause-some : goal.returns-then-rest-hi-clause-some
returns-then-rest-hi-clause-some c =
    let f : SFits w128 c.args.lo = c.ranges.lo in
    let g : SFits w128 c.args.hi = c.ranges.hi in
    let h : SFits w128 c.args.rest = c.ranges.rest in
    let p = simp to_z-of_z at c.if-lo-rest.true in
    let q = simp to_z-of_z at c.if-rest-hi.true in
    rest_alone c.single.result c.args.lo c.args.hi c.args.rest _ c.args.step c.if-step-eq0.true (to_z-of_z w128 _ c.ranges.rest) (omega (arith, ints)) (omega (arith, ints)) c.single.ensures

pub returns-else-lo-rest-clause-none : goal.returns-else-lo-rest-clause-none
returns-else-lo-rest-clause-none c =
    let f : SFits w128 c.args.lo = c.ranges.lo in
    let g : SFits w128 c.args.hi = c.ranges.hi in
    let h : SFits w128 c.args.rest = c.ranges.rest in
    let far : (c.args.rest <ℤ c.args.lo) ⊎ (c.args.hi <ℤ c.args.rest) = elim c.else-lo-rest.branch [
      | else-lo-rest-via-then-lo-rest+else-rest-hi w ↦ let q = simp to_z-of_z at w.if-rest-hi.false in inr (omega (arith, ints))
      | else-lo-rest-via-else-lo-rest w ↦ let q = simp to_z-of_z at w.if-lo-rest.false in inl (omega (arith, ints))
    ] in
    no_rest c.args.lo c.args.hi c.args.rest c.args.step c.if-step-eq0.true far

skip : (c : goal.Then-skip-distance) → IsSkip c.args.lo c.args.step c.args.rest c.skip_from-skip.result
skip c =
    let f : SFits w128 c.args.lo = c.ranges.lo in
    let h : SFits w128 c.args.rest = c.ranges.rest in
    simp to_z-of_z at c.skip_from-skip.ensures

pub returns-then-skip-distance-clause-none : goal.returns-then-skip-distance-clause-none
returns-then-skip-distance-clause-none c =
    none_from_first c.args.lo c.args.hi _ _ c.args.rest c.args.step c.skip_from-skip.result _ (to_z-of_z w128 _ c.ranges.lo) (to_z-of_z w128 _ c.ranges.hi) c.distance.ensures c.if-skip-distance.true (skip c)

pub returns-else-skip-distance-clause-some : goal.returns-else-skip-distance-clause-some
returns-else-skip-distance-clause-some c =
    let f : SFits w128 c.args.lo = c.ranges.lo in
    let g : SFits w128 c.args.hi = c.ranges.hi in
    let h : SFits w128 c.args.rest = c.ranges.rest in
    let s : IsSkip c.args.lo c.args.step c.args.rest c.skip_from-skip.result = simp to_z-of_z at c.skip_from-skip.ensures in
    let r = rw (to_z-of_z w128 c.args.hi g) at c.stepped.ensures in
    from_first c.stepped.result c.args.lo c.args.hi c.args.rest _ c.args.step c.skip_from-skip.result
    (first_code c.args.lo c.args.hi c.skip_from-skip.result c.distance.result c.requires.least c.requires.greatest f g c.distance.ensures c.if-skip-distance.false) s r
