use Rattle.std.proofs.Common.{rules, subst, Option}
use Rattle.std.proofs.lemmas.Int.{to_z-of_z}
use mir.Val.{SFits}
use mir.Syntax.{w128}
use Rattle.lt_lin.specs.Terms.{Fits}
use Rattle.lt_elim.specs.Fraction.{Fraction, fraction}
use Rattle.lt_elim.specs.Reckoning.{Gives}
use Rattle.lt_elim.proofs.Reckoning.{parts_are, parts_sum, parts_total}
use Rattle.lt_elim.proofs.arithmetic.plus.Goals as goal

pub returns-clause-value : goal.returns-clause-value
returns-clause-value c =
    let ke : SFits w128 c.args.e.over = search rules in
    let kf : SFits w128 c.args.f.over = search rules in
    let kl : SFits w128 c.in-Some-product.left = search rules in
    let kr : SFits w128 c.in-Some-product-2.right = search rules in
    let ks : SFits w128 c.signed.result = search rules in
    let kt : SFits w128 c.signed-2.result = search rules in
    let left = simp to_z-of_z at c.in-Some-product.ensures in
    let right = simp to_z-of_z at c.in-Some-product-2.ensures in
    let e : Fraction = fraction c.args.e.over c.args.e.under in
    let f : Fraction = fraction c.args.f.over c.args.f.under in
    let parts = parts_are e f c.common_divisor-divisor.result c.in-Some-product.left c.in-Some-product-2.right c.signed.result c.signed-2.result c.in-Some.multiple c.common_divisor-divisor.ensures.value c.signed.ensures c.signed-2.ensures left.1 right.1 c.in-Some.ensures.value.1 in
    subst (λ (o : Option Fraction). Gives c.args.limited c.sum_over.result o) (parts_sum c.args.limited e f c.in-Some-product.left c.in-Some-product-2.right c.in-Some.multiple parts) (simp to_z-of_z at c.sum_over.ensures.value)

pub returns-clause-unfit : goal.returns-clause-unfit
returns-clause-unfit c =
    let ke : SFits w128 c.args.e.over = search rules in
    let kf : SFits w128 c.args.f.over = search rules in
    let kl : SFits w128 c.in-Some-product.left = search rules in
    let kr : SFits w128 c.in-Some-product-2.right = search rules in
    let ks : SFits w128 c.signed.result = search rules in
    let kt : SFits w128 c.signed-2.result = search rules in
    let left = simp to_z-of_z at c.in-Some-product.ensures in
    let right = simp to_z-of_z at c.in-Some-product-2.ensures in
    let e : Fraction = fraction c.args.e.over c.args.e.under in
    let f : Fraction = fraction c.args.f.over c.args.f.under in
    let parts = parts_are e f c.common_divisor-divisor.result c.in-Some-product.left c.in-Some-product-2.right c.signed.result c.signed-2.result c.in-Some.multiple c.common_divisor-divisor.ensures.value c.signed.ensures c.signed-2.ensures left.1 right.1 c.in-Some.ensures.value.1 in
    let unfit = simp to_z-of_z at c.sum_over.ensures.unfit in
    λ none no_limit can. unfit none no_limit (subst Fits (parts_total e f c.in-Some-product.left c.in-Some-product-2.right c.in-Some.multiple parts) can.3)
