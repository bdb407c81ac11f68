use Rattle.std.proofs.Common.{rules, sym, ◌∙◌, ap, subst, List, ℤ}
use Rattle.std.proofs.lemmas.Int.{to_z-of_z}
use mir.Val.{SFits}
use mir.Syntax.{w128}
use Rattle.lt_lin.specs.declared.row.Row.{Row}
use Rattle.lt_lin.specs.Terms.{Term}
use Rattle.lt_lin.specs.Adding.{IsAdded, CanAdd}
use Rattle.lt_elim.specs.Summing.{is_past}
use Rattle.lt_elim.proofs.Combining.{sum_made, constant_unfit, terms_unfit, sum_past}
use Rattle.lt_elim.proofs.combination.add_row.Goals as goal

row : List Term → ℤ → Row
row ts k = record { terms = ts; constant = k }

pub returns-in_default : goal.returns-in_default
unfolding row
returns-in_default c =
    let f = c.ranges.by in
    let g = c.ranges.constant in
    let h : SFits w128 c.args.base.now.constant = search rules in
    constant_unfit c.args.limited (row c.args.base.now.terms.items c.args.base.now.constant) c.args.by (row c.args.terms.now c.args.constant) (simp to_z-of_z at c.in_default.ensures)

pub returns-then-not-add_terms : goal.returns-then-not-add_terms
unfolding row
returns-then-not-add_terms c =
    let f = c.ranges.by in
    terms_unfit c.args.limited (row c.args.base.now.terms.items c.args.base.now.constant) c.args.by (row c.args.terms.now c.args.constant)
    (subst (λ (ts : List Term). CanAdd ts c.args.by c.args.terms.now → ⊥) c.as_slice.ensures.value (simp to_z-of_z at (c.add_terms.ensures.unfit c.if-not-add_terms.true)))

pub returns-then-is_past : goal.returns-then-is_past
unfolding row
returns-then-is_past c =
    let f = c.ranges.by in
    let g = c.ranges.constant in
    let h : SFits w128 c.args.base.now.constant = search rules in
    let k : SFits w128 c.in-Some.constant = search rules in
    let s = simp to_z-of_z at c.in-Some.ensures in
    let past = simp to_z-of_z at c.is_past.ensures in
    sum_past c.args.limited (row c.args.base.now.terms.items c.args.base.now.constant) c.args.by (row c.args.terms.now c.args.constant) c.add_terms.new.next.items c.in-Some.constant
    (subst (λ (ts : List Term). IsAdded ts c.args.by c.args.terms.now c.add_terms.new.next.items) c.as_slice.ensures.value (simp to_z-of_z at (c.add_terms.ensures.added c.if-not-add_terms.false)))
    s.1
    (ap (λ (ts : List Term). is_past c.args.limited c.in-Some.constant ts) (sym c.as_slice-2.ensures.value) ∙ sym past ∙ c.if-is_past.true)

pub returns : goal.returns
unfolding row
returns c =
    let f = c.ranges.by in
    let g = c.ranges.constant in
    let h : SFits w128 c.args.base.now.constant = search rules in
    let k : SFits w128 c.in-Some.constant = search rules in
    let s = simp to_z-of_z at c.in-Some.ensures in
    let past = simp to_z-of_z at c.is_past.ensures in
    simp to_z-of_z (sum_made c.args.limited (row c.args.base.now.terms.items c.args.base.now.constant) c.args.by (row c.args.terms.now c.args.constant) c.add_terms.new.next.items c.in-Some.constant
    (subst (λ (ts : List Term). IsAdded ts c.args.by c.args.terms.now c.add_terms.new.next.items) c.as_slice.ensures.value (simp to_z-of_z at (c.add_terms.ensures.added c.if-not-add_terms.false)))
    s
    (ap (λ (ts : List Term). is_past c.args.limited c.in-Some.constant ts) (sym c.as_slice-2.ensures.value) ∙ sym past ∙ c.if-is_past.false))
