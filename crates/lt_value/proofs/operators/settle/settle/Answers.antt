use Rattle.lt_value.specs.Entry.{entry_of, IsSettled, IsKept, IsReduced}
use Rattle.std.specs.Int.{w128}
use mir.Val.{SFits}
use Rattle.std.proofs.lemmas.Int.{to_z-of_z}
use Rattle.lt_value.proofs.Settling.{settled_kept, settled_reduced, some_as, none_as}
use Rattle.lt_value.proofs.operators.settle.settle.Goals as goal

pub returns-then-stays-clause-some : goal.returns-then-stays-clause-some
returns-then-stays-clause-some c =
    let f : SFits w128 c.args.lo = c.ranges.lo in
    let g : SFits w128 c.args.hi = c.ranges.hi in
    let e = entry_of c.args.lo c.args.hi c.args.step c.args.lo in
    some_as (IsKept c.args.model c.args.ty e) (IsSettled c.args.model c.args.ty e) c.kept.result (settled_kept c.args.model c.args.ty e c.stays.result (simp to_z-of_z at c.stays.ensures) c.if-stays.true) (simp to_z-of_z at c.kept.ensures.some)

pub returns-then-stays-clause-none : goal.returns-then-stays-clause-none
returns-then-stays-clause-none c =
    let f : SFits w128 c.args.lo = c.ranges.lo in
    let g : SFits w128 c.args.hi = c.ranges.hi in
    let e = entry_of c.args.lo c.args.hi c.args.step c.args.lo in
    none_as (IsKept c.args.model c.args.ty e) (IsSettled c.args.model c.args.ty e) c.kept.result (settled_kept c.args.model c.args.ty e c.stays.result (simp to_z-of_z at c.stays.ensures) c.if-stays.true) (simp to_z-of_z at c.kept.ensures.none)

pub returns-else-stays-clause-some : goal.returns-else-stays-clause-some
returns-else-stays-clause-some c =
    let f : SFits w128 c.args.lo = c.ranges.lo in
    let g : SFits w128 c.args.hi = c.ranges.hi in
    let e = entry_of c.args.lo c.args.hi c.args.step c.args.lo in
    some_as (IsReduced c.args.model c.args.ty c.args.step c.args.lo) (IsSettled c.args.model c.args.ty e) c.reduced.result (settled_reduced c.args.model c.args.ty e c.stays.result (simp to_z-of_z at c.stays.ensures) c.if-stays.false) (simp to_z-of_z at c.reduced.ensures.some)

pub returns-else-stays-clause-none : goal.returns-else-stays-clause-none
returns-else-stays-clause-none c =
    let f : SFits w128 c.args.lo = c.ranges.lo in
    let g : SFits w128 c.args.hi = c.ranges.hi in
    let e = entry_of c.args.lo c.args.hi c.args.step c.args.lo in
    none_as (IsReduced c.args.model c.args.ty c.args.step c.args.lo) (IsSettled c.args.model c.args.ty e) c.reduced.result (settled_reduced c.args.model c.args.ty e c.stays.result (simp to_z-of_z at c.stays.ensures) c.if-stays.false) (simp to_z-of_z at c.reduced.ensures.none)
