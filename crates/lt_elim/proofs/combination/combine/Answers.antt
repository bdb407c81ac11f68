use Rattle.std.proofs.Common.{rules, sym, ap, subst, refl, List, ℕ, ℤ, pos, ◌<◌, ◌^◌}
use Rattle.std.specs.Prelude.{MatchOption, IfOk}
use Rattle.std.proofs.lemmas.Int.{to_z-of_z}
use mir.Val.{SFits}
use mir.Syntax.{w128}
use Rattle.lt_lin.specs.declared.row.Row.{Row}
use Rattle.lt_lin.specs.Terms.{Term}
use Rattle.lt_elim.specs.Combination.{Multipliers}
use Rattle.lt_elim.specs.Summing.{CanSum, IsSum}
use Rattle.lt_elim.proofs.Combining.{sizes_positive, found_size, made_multipliers, raising_wide, lowering_wide, combined, if_ok_more}
use Rattle.lt_elim.proofs.combination.combine.Goals as goal

abbrev row : List Term → ℤ → Row
row ts k = record { terms = ts; constant = k }

pub multipliers_of-by-requires : goal.multipliers_of-by-requires
multipliers_of-by-requires c =
    let f : SFits w128 c.factor_of.result = search rules in
    let h : SFits w128 c.factor_of-2.result = search rules in
    let up = found_size c.args.variable c.as_slice.result.now c.args.raising.now.terms c.factor_of.result c.unsigned_abs-up.result c.as_slice.ensures.ordered c.as_slice.ensures.same c.factor_of.ensures (simp to_z-of_z at c.unsigned_abs-up.ensures.value) in
    let down = found_size c.args.variable c.as_slice-2.result.now c.args.lowering.now.terms c.factor_of-2.result c.unsigned_abs-down.result c.as_slice-2.ensures.ordered c.as_slice-2.ensures.same c.factor_of-2.ensures (simp to_z-of_z at c.unsigned_abs-down.ensures.value) in
    record {
      positive = subst (λ (z : ℕ). 0 < z) (sym up) (sizes_positive c.args.variable c.args.raising.now c.args.lowering.now c.args.limited c.requires);
      up = subst (λ (z : ℕ). z < 2 ^ 127) (sym up) c.requires.raising_small;
      down = subst (λ (z : ℕ). z < 2 ^ 127) (sym down) c.requires.lowering_small;
    }

pub returns-in_default : goal.returns-in_default
returns-in_default c =
    let f : SFits w128 c.factor_of.result = search rules in
    let h : SFits w128 c.factor_of-2.result = search rules in
    let up = found_size c.args.variable c.as_slice.result.now c.args.raising.now.terms c.factor_of.result c.unsigned_abs-up.result c.as_slice.ensures.ordered c.as_slice.ensures.same c.factor_of.ensures (simp to_z-of_z at c.unsigned_abs-up.ensures.value) in
    let down = found_size c.args.variable c.as_slice-2.result.now c.args.lowering.now.terms c.factor_of-2.result c.unsigned_abs-down.result c.as_slice-2.ensures.ordered c.as_slice-2.ensures.same c.factor_of-2.ensures (simp to_z-of_z at c.unsigned_abs-down.ensures.value) in
    let m = made_multipliers c.args.variable c.args.raising.now c.args.lowering.now (record { of_raising = c.multipliers_of-by.result.of_raising; of_lowering = c.multipliers_of-by.result.of_lowering }) c.unsigned_abs-up.result c.unsigned_abs-down.result up down c.multipliers_of-by.ensures in
    let kr : SFits w128 c.multipliers_of-by.result.of_raising = search rules in
    let kp : SFits w128 c.args.raising.now.constant = search rules in
    let raised = simp to_z-of_z at c.in_ok-raised.ensures in
    let none = rw c.in_default.is at raised in
    raising_wide c.args.limited c.args.variable c.args.raising.now c.args.lowering.now (row c.new.result.items (pos 0)) c.multipliers_of-by.result.of_raising c.requires (ap (λ (z : Multipliers). z.of_raising) m) c.new.ensures.items refl
    (subst (λ (ts : List Term). CanSum c.args.limited (row c.new.result.items (pos 0)) c.multipliers_of-by.result.of_raising (row ts c.args.raising.now.constant) → ⊥) c.as_slice-terms.ensures.same none)

pub returns-in_default-2 : goal.returns-in_default-2
returns-in_default-2 c =
    let f : SFits w128 c.factor_of.result = search rules in
    let h : SFits w128 c.factor_of-2.result = search rules in
    let up = found_size c.args.variable c.as_slice.result.now c.args.raising.now.terms c.factor_of.result c.unsigned_abs-up.result c.as_slice.ensures.ordered c.as_slice.ensures.same c.factor_of.ensures (simp to_z-of_z at c.unsigned_abs-up.ensures.value) in
    let down = found_size c.args.variable c.as_slice-2.result.now c.args.lowering.now.terms c.factor_of-2.result c.unsigned_abs-down.result c.as_slice-2.ensures.ordered c.as_slice-2.ensures.same c.factor_of-2.ensures (simp to_z-of_z at c.unsigned_abs-down.ensures.value) in
    let m = made_multipliers c.args.variable c.args.raising.now c.args.lowering.now (record { of_raising = c.multipliers_of-by.result.of_raising; of_lowering = c.multipliers_of-by.result.of_lowering }) c.unsigned_abs-up.result c.unsigned_abs-down.result up down c.multipliers_of-by.ensures in
    let kr : SFits w128 c.multipliers_of-by.result.of_raising = search rules in
    let kp : SFits w128 c.args.raising.now.constant = search rules in
    let raised = simp to_z-of_z at c.in_ok-raised.ensures in
    let kl : SFits w128 c.multipliers_of-by.result.of_lowering = search rules in
    let kn : SFits w128 c.args.lowering.now.constant = search rules in
    let lowered = simp to_z-of_z at c.in_ok-lowered.ensures in
    let none = rw c.in_default-2.is at lowered in
    lowering_wide c.args.limited c.args.variable c.args.raising.now c.args.lowering.now (row c.new.result.items (pos 0)) c.multipliers_of-by.result.of_lowering c.requires (ap (λ (z : Multipliers). z.of_lowering) m) c.new.ensures.items refl
    (subst (λ (ts : List Term). CanSum c.args.limited (row c.new.result.items (pos 0)) c.multipliers_of-by.result.of_lowering (row ts c.args.lowering.now.constant) → ⊥) c.as_slice-terms-2.ensures.same none)

pub returns : goal.returns
returns c =
    let f : SFits w128 c.factor_of.result = search rules in
    let h : SFits w128 c.factor_of-2.result = search rules in
    let up = found_size c.args.variable c.as_slice.result.now c.args.raising.now.terms c.factor_of.result c.unsigned_abs-up.result c.as_slice.ensures.ordered c.as_slice.ensures.same c.factor_of.ensures (simp to_z-of_z at c.unsigned_abs-up.ensures.value) in
    let down = found_size c.args.variable c.as_slice-2.result.now c.args.lowering.now.terms c.factor_of-2.result c.unsigned_abs-down.result c.as_slice-2.ensures.ordered c.as_slice-2.ensures.same c.factor_of-2.ensures (simp to_z-of_z at c.unsigned_abs-down.ensures.value) in
    let m = made_multipliers c.args.variable c.args.raising.now c.args.lowering.now (record { of_raising = c.multipliers_of-by.result.of_raising; of_lowering = c.multipliers_of-by.result.of_lowering }) c.unsigned_abs-up.result c.unsigned_abs-down.result up down c.multipliers_of-by.ensures in
    let kr : SFits w128 c.multipliers_of-by.result.of_raising = search rules in
    let kp : SFits w128 c.args.raising.now.constant = search rules in
    let raised = simp to_z-of_z at c.in_ok-raised.ensures in
    let kl : SFits w128 c.multipliers_of-by.result.of_lowering = search rules in
    let kn : SFits w128 c.args.lowering.now.constant = search rules in
    let lowered = simp to_z-of_z at c.in_ok-lowered.ensures in
    let some = rw c.in-Some.is at raised in
    let other = rw c.in-Some-2.is at lowered in
    let kc : SFits w128 c.in-Some.raised.constant = search rules in
    let kd : SFits w128 c.in-Some-2.lowered.constant = search rules in
    let last = subst (λ (ts : List Term). IfOk c.add_row-3.result (λ o. MatchOption o (CanSum c.args.limited (row c.in-Some.raised.terms.items c.in-Some.raised.constant) (pos 1) (row ts c.in-Some-2.lowered.constant) → ⊥) (λ s. IsSum c.args.limited (row c.in-Some.raised.terms.items c.in-Some.raised.constant) (pos 1) (row ts c.in-Some-2.lowered.constant) (row s.terms.items s.constant)))) c.as_slice-3.ensures.value (simp to_z-of_z at c.add_row-3.ensures) in
    if_ok_more c.add_row-3.result (λ o h. combined c.args.limited c.args.variable c.args.raising.now c.args.lowering.now (row c.new.result.items (pos 0)) (row c.in-Some.raised.terms.items c.in-Some.raised.constant) (row c.in-Some-2.lowered.terms.items c.in-Some-2.lowered.constant)
    (record { of_raising = c.multipliers_of-by.result.of_raising; of_lowering = c.multipliers_of-by.result.of_lowering }) o c.requires c.new.ensures.items refl m
    (subst (λ (ts : List Term). IsSum c.args.limited (row c.new.result.items (pos 0)) c.multipliers_of-by.result.of_raising (row ts c.args.raising.now.constant) (row c.in-Some.raised.terms.items c.in-Some.raised.constant)) c.as_slice-terms.ensures.same some)
    (subst (λ (ts : List Term). IsSum c.args.limited (row c.new.result.items (pos 0)) c.multipliers_of-by.result.of_lowering (row ts c.args.lowering.now.constant) (row c.in-Some-2.lowered.terms.items c.in-Some-2.lowered.constant)) c.as_slice-terms-2.ensures.same other)
    h) last
