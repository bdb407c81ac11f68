use Rattle.std.proofs.Common.{rules, ◌≡◌, sym, ◌∙◌, ap, subst, map, ℕ, ℤ, pos, ◌<◌, ◌^◌}
use Rattle.std.proofs.lemmas.Int.{to_z-of_z}
use mir.Val.{SFits, to_z}
use mir.Syntax.{w128}
use Rattle.lt_lin.specs.Refutation.{IsQuotient}
use Rattle.lt_elim.specs.Divisor.{content}
use Rattle.lt_elim.proofs.Dividing.{undivided, quotient_by}
use Rattle.lt_elim.proofs.Tracing.{itself_quotient}
use Rattle.lt_elim.proofs.normal.normalise.Goals as goal

pub returns-then-divisor-le1-clause-row : goal.returns-then-divisor-le1-clause-row
returns-then-divisor-le1-clause-row c =
    let f = c.ranges.constant in
    let e : c.content-divisor.result ≡ content c.args.terms.items = c.content-divisor.ensures ∙ ap content c.as_slice.ensures.value in
    simp to_z-of_z (sym (undivided c.args.terms.items c.args.constant c.content-divisor.result e c.if-divisor-le1.true))

pub returns-then-divisor-le1-clause-quotient : goal.returns-then-divisor-le1-clause-quotient
returns-then-divisor-le1-clause-quotient c =
    let f : SFits w128 c.args.constant = search rules in
    simp to_z-of_z (itself_quotient (record { terms = c.args.terms.items; constant = c.args.constant }))

size_fits : (n : ℕ) → n < 2 ^ 127 → SFits w128 (pos n)
size_fits n h = search rules

pub returns-clause-quotient : goal.returns-clause-quotient
returns-clause-quotient c =
    let f : SFits w128 c.args.constant = search rules in
    let g : SFits w128 c.floor_quotient.result = search rules in
    let e : c.content-divisor.result ≡ content c.args.terms.items = c.content-divisor.ensures ∙ ap content c.as_slice.ensures.value in
    let s = size_fits c.content-divisor.result (subst (λ (n : ℕ). n < 2 ^ 127) (sym e) c.requires) in
    let d : to_z w128 c.content-divisor.result ≡ pos c.content-divisor.result = to_z-of_z w128 (pos c.content-divisor.result) s in
    let terms = c.push_quotients.ensures ∙ ap (map _) c.as_slice-2.ensures.value in
    let constant = simp to_z-of_z at c.floor_quotient.ensures in
    subst (λ (z : ℤ). IsQuotient (record { terms = c.args.terms.items; constant = c.args.constant }) (to_z w128 c.content-divisor.result) (record { terms = c.push_quotients.new.new.items; constant = z })) (sym (to_z-of_z w128 c.floor_quotient.result g))
    (quotient_by c.args.terms.items c.push_quotients.new.new.items c.args.constant c.floor_quotient.result (to_z w128 c.content-divisor.result) c.content-divisor.result e c.if-divisor-le1.false d terms constant)
