use Rattle.std.proofs.Common.{rules, sym, subst, ℕ, ◌<◌, ◌^◌}
use Rattle.std.proofs.lemmas.Int.{to_z-of_z}
use mir.Val.{SFits}
use mir.Syntax.{w128}
use Rattle.lt_elim.proofs.Combining.{sizes_positive, found_size, made_multipliers}
use Rattle.lt_elim.proofs.pair.pair_of.Goals as goal

pub multipliers_of-by-requires : goal.multipliers_of-by-requires
multipliers_of-by-requires c =
    let f : SFits w128 c.factor_of.result = search rules in
    let h : SFits w128 c.factor_of-2.result = search rules in
    let up = found_size c.args.variable c.as_slice.result.now c.args.raising.now.row.terms c.factor_of.result c.unsigned_abs-up.result c.as_slice.ensures.ordered c.as_slice.ensures.same c.factor_of.ensures (simp to_z-of_z at c.unsigned_abs-up.ensures.value) in
    let down = found_size c.args.variable c.as_slice-2.result.now c.args.lowering.now.row.terms c.factor_of-2.result c.unsigned_abs-down.result c.as_slice-2.ensures.ordered c.as_slice-2.ensures.same c.factor_of-2.ensures (simp to_z-of_z at c.unsigned_abs-down.ensures.value) in
    record {
      positive = subst (λ (z : ℕ). 0 < z) (sym up) (sizes_positive c.args.variable c.args.raising.now.row c.args.lowering.now.row c.args.limited c.requires);
      up = subst (λ (z : ℕ). z < 2 ^ 127) (sym up) c.requires.raising_small;
      down = subst (λ (z : ℕ). z < 2 ^ 127) (sym down) c.requires.lowering_small;
    }

pub returns-clause-multipliers : goal.returns-clause-multipliers
returns-clause-multipliers c =
    let f : SFits w128 c.factor_of.result = search rules in
    let h : SFits w128 c.factor_of-2.result = search rules in
    let k : SFits w128 c.multipliers_of-by.result.of_raising = search rules in
    let l : SFits w128 c.multipliers_of-by.result.of_lowering = search rules in
    let up = found_size c.args.variable c.as_slice.result.now c.args.raising.now.row.terms c.factor_of.result c.unsigned_abs-up.result c.as_slice.ensures.ordered c.as_slice.ensures.same c.factor_of.ensures (simp to_z-of_z at c.unsigned_abs-up.ensures.value) in
    let down = found_size c.args.variable c.as_slice-2.result.now c.args.lowering.now.row.terms c.factor_of-2.result c.unsigned_abs-down.result c.as_slice-2.ensures.ordered c.as_slice-2.ensures.same c.factor_of-2.ensures (simp to_z-of_z at c.unsigned_abs-down.ensures.value) in
    simp to_z-of_z (made_multipliers c.args.variable c.args.raising.now.row c.args.lowering.now.row (record { of_raising = c.multipliers_of-by.result.of_raising; of_lowering = c.multipliers_of-by.result.of_lowering }) c.unsigned_abs-up.result c.unsigned_abs-down.result up down c.multipliers_of-by.ensures)
