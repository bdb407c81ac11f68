use Rattle.std.proofs.Common.{rules, ◌∙◌, subst, sym, ℤ, ◌<◌, ◌^◌, Option}
use Rattle.std.specs.Prelude.{unsigned_abs}
use Rattle.std.proofs.lemmas.Int.{to_z-of_z}
use mir.Val.{SFits}
use mir.Syntax.{w128}
use Rattle.lt_elim.specs.Fraction.{Fraction, fraction}
use Rattle.lt_elim.specs.Reckoning.{Gives, fractions_of}
use Rattle.lt_elim.proofs.Reckoning.{bound_is, bound_unfit, negated_unfit, is_whole, found_is}
use Rattle.lt_elim.proofs.point.bound.Goals as goal

pub returns-in_default-plus-clause-unfit : goal.returns-in_default-plus-clause-unfit
returns-in_default-plus-clause-unfit c =
    let k : SFits w128 c.args.row.now.constant = search rules in
    let constant = is_whole c.whole.result.over c.whole.result.under c.args.row.now.constant (simp to_z-of_z at c.whole.ensures.over) c.whole.ensures.under in
    λ none no_limit. bound_unfit c.args.limited c.args.variable (fractions_of c.args.values.now) c.args.row.now c.as_slice-terms.result.now (fraction c.in-Some.sum.over c.in-Some.sum.under) (fraction c.whole.result.over c.whole.result.under) c.as_slice-terms.ensures.same c.in-Some.ensures.value constant no_limit
    (c.in_default-plus.ensures.unfit none no_limit)

pub negated_over-requires-clause-some : goal.negated_over-requires-clause-some
negated_over-requires-clause-some c =
    let k : SFits w128 c.factor_of.result = search rules in
    let f = found_is c.args.variable c.as_slice-terms.result.now c.args.row.now c.factor_of.result c.as_slice-terms.ensures.same c.as_slice-terms.ensures.ordered c.factor_of.ensures in
    λ zero. c.requires.some (sym f ∙ sym (to_z-of_z w128 c.factor_of.result k) ∙ zero)

pub negated_over-requires-clause-small : goal.negated_over-requires-clause-small
negated_over-requires-clause-small c =
    let k : SFits w128 c.factor_of.result = search rules in
    let f = found_is c.args.variable c.as_slice-terms.result.now c.args.row.now c.factor_of.result c.as_slice-terms.ensures.same c.as_slice-terms.ensures.ordered c.factor_of.ensures in
    subst (λ (z : ℤ). unsigned_abs z < 2 ^ 127) (sym (to_z-of_z w128 c.factor_of.result k ∙ f)) c.requires.small

pub returns-clause-value : goal.returns-clause-value
returns-clause-value c =
    let k : SFits w128 c.factor_of.result = search rules in
    let l : SFits w128 c.args.row.now.constant = search rules in
    let f = found_is c.args.variable c.as_slice-terms.result.now c.args.row.now c.factor_of.result c.as_slice-terms.ensures.same c.as_slice-terms.ensures.ordered c.factor_of.ensures in
    let constant = is_whole c.whole.result.over c.whole.result.under c.args.row.now.constant (simp to_z-of_z at c.whole.ensures.over) c.whole.ensures.under in
    let is = bound_is c.args.limited c.args.variable (fractions_of c.args.values.now) c.args.row.now c.as_slice-terms.result.now (fraction c.in-Some.sum.over c.in-Some.sum.under) (fraction c.whole.result.over c.whole.result.under) (fraction c.in-Some-plus.sum.over c.in-Some-plus.sum.under) c.factor_of.result c.as_slice-terms.ensures.same c.in-Some.ensures.value constant c.in-Some-plus.ensures.value f in
    subst (λ (o : Option Fraction). Gives c.args.limited c.negated_over.result o) is (simp to_z-of_z at c.negated_over.ensures.value)

pub returns-clause-unfit : goal.returns-clause-unfit
returns-clause-unfit c =
    let k : SFits w128 c.factor_of.result = search rules in
    let l : SFits w128 c.args.row.now.constant = search rules in
    let f = found_is c.args.variable c.as_slice-terms.result.now c.args.row.now c.factor_of.result c.as_slice-terms.ensures.same c.as_slice-terms.ensures.ordered c.factor_of.ensures in
    let constant = is_whole c.whole.result.over c.whole.result.under c.args.row.now.constant (simp to_z-of_z at c.whole.ensures.over) c.whole.ensures.under in
    let unfit = simp to_z-of_z at c.negated_over.ensures.unfit in
    λ none no_limit. negated_unfit c.args.limited c.args.variable (fractions_of c.args.values.now) c.args.row.now c.as_slice-terms.result.now (fraction c.in-Some.sum.over c.in-Some.sum.under) (fraction c.whole.result.over c.whole.result.under) (fraction c.in-Some-plus.sum.over c.in-Some-plus.sum.under) c.factor_of.result c.as_slice-terms.ensures.same c.in-Some.ensures.value constant c.in-Some-plus.ensures.value f no_limit
    (unfit none no_limit)
