use Rattle.lt_value.specs.Entry.{entry_of, IsIn}
use Rattle.lt_value.specs.Num.{IsExactly, IsEmpty}
use Rattle.std.proofs.Common.{◌≡◌}
use Rattle.lt_model.specs.Scalar.{least_of, greatest_of}
use Rattle.std.specs.Int.{int_max, int_min}
use Rattle.std.specs.Int.{w128}
use mir.Val.{SFits}
use Rattle.std.proofs.lemmas.Int.{to_z-of_z}
use Rattle.lt_value.proofs.Cuts.{if_some_as, if_none_as}
use Rattle.lt_value.proofs.Settling.{kept_is, none_kept}
use Rattle.lt_value.proofs.MadeSettled.{low_code, high_code}
use Rattle.lt_value.proofs.operators.settle.kept.Goals as goal

low : (c : goal.After-congruent) → (c.max-low.result ≡ int_max c.args.lo (least_of c.args.model c.args.ty)) × SFits w128 c.max-low.result
low c = low_code c.args.model c.args.ty c.args.lo c.least.result c.max-low.result c.ranges.lo c.least.ensures c.max-low.ensures.value

high : (c : goal.After-congruent) → (c.min-high.result ≡ int_min c.args.hi (greatest_of c.args.model c.args.ty)) × SFits w128 c.min-high.result
high c = high_code c.args.model c.args.ty c.args.hi c.greatest.result c.min-high.result c.ranges.hi c.greatest.ensures c.min-high.ensures.value

pub returns-clause-some : goal.returns-clause-some
returns-clause-some c =
    let f : SFits w128 c.args.lo = c.ranges.lo in
    let g : SFits w128 c.max-low.result = (low c).1 in
    let h : SFits w128 c.min-high.result = (high c).1 in
    if_some_as (IsExactly (IsIn (entry_of c.max-low.result c.min-high.result c.args.step c.args.lo))) _
    (λ n. kept_is c.args.model c.args.ty n c.args.lo c.args.hi c.max-low.result c.min-high.result c.args.step (low c).0 (high c).0) c.congruent.result
    (simp to_z-of_z at c.congruent.ensures.some)

pub returns-clause-none : goal.returns-clause-none
returns-clause-none c =
    let f : SFits w128 c.args.lo = c.ranges.lo in
    let g : SFits w128 c.max-low.result = (low c).1 in
    let h : SFits w128 c.min-high.result = (high c).1 in
    if_none_as (IsEmpty (IsIn (entry_of c.max-low.result c.min-high.result c.args.step c.args.lo))) _
    (none_kept c.args.model c.args.ty c.args.lo c.args.hi c.max-low.result c.min-high.result c.args.step (low c).0 (high c).0) c.congruent.result
    (simp to_z-of_z at c.congruent.ensures.none)
