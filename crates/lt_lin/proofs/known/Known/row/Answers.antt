use Rattle.std.proofs.Common.{arith, rules, ap, sym, subst, ◌∙◌, ◌<◌, length, vec_len, Some}
use Rattle.std.specs.Prelude.{slice_get}
use mir.Val.{SFits}
use mir.Syntax.{w128}
use Rattle.std.proofs.lemmas.Int.{to_z-of_z}
use Rattle.std.proofs.lemmas.Option.{slice_get_past}
use Rattle.lt_lin.proofs.Store.{length-rows, row_at, ordered_at, IsRowAt}
use Rattle.lt_lin.proofs.known.Known.row.Goals as goal

pub returns-then-i-len-clause-row : goal.returns-then-i-len-clause-row
returns-then-i-len-clause-row c =
    let k = c.self.inside in
    slice_get_past c.args.self.now.rows c.args.i (omega (arith, c.len.ensures, c.if-i-len.true, k.endings.ok.0, length-rows k.terms.items 0 k.endings.items, ap (λ v. length v.rows) c.self.view_is))

pub part-requires-clause-start : goal.part-requires-clause-start
part-requires-clause-start c =
    let k = c.self.inside in
    let l : c.args.i < length k.endings.items = omega (arith, c.len.ensures, c.if-i-len.false, k.endings.ok.0) in
    let r = subst (IsRowAt k.terms.items 0 (vec_len k.terms) k.endings.items c.args.i) (sym c.index.ensures) (row_at k.terms.items 0 (vec_len k.terms) k.endings.items c.args.i c.index.result.now c.self.invariant.0 l) in
    let e = rw c.as_slice.ensures.value at c.start_of-start.ensures in
    omega (arith, r.start, e)

pub part-requires-clause-end : goal.part-requires-clause-end
part-requires-clause-end c =
    let k = c.self.inside in
    let l : c.args.i < length k.endings.items = omega (arith, c.len.ensures, c.if-i-len.false, k.endings.ok.0) in
    let r = subst (IsRowAt k.terms.items 0 (vec_len k.terms) k.endings.items c.args.i) (sym c.index.ensures) (row_at k.terms.items 0 (vec_len k.terms) k.endings.items c.args.i c.index.result.now c.self.invariant.0 l) in
    omega (arith, r.inside, c.as_slice-2.ensures.len)

pub returns-clause-row : goal.returns-clause-row
returns-clause-row c =
    let k = c.self.inside in
    let l : c.args.i < length k.endings.items = omega (arith, c.len.ensures, c.if-i-len.false, k.endings.ok.0) in
    let r = subst (IsRowAt k.terms.items 0 (vec_len k.terms) k.endings.items c.args.i) (sym c.index.ensures) (row_at k.terms.items 0 (vec_len k.terms) k.endings.items c.args.i c.index.result.now c.self.invariant.0 l) in
    let e = rw c.as_slice.ensures.value at c.start_of-start.ensures in
    let p = rw (c.as_slice-2.ensures.value, e) at c.part.ensures in
    let f : SFits w128 c.index.result.now.constant = search rules in
    let q = r.row ∙ ap (λ ts. Some (record { terms = ts; constant = c.index.result.now.constant })) (sym p) in
    simp to_z-of_z (ap (λ v. slice_get v.rows c.args.i) (sym c.self.view_is) ∙ q)

pub returns-clause-ordered : goal.returns-clause-ordered
returns-clause-ordered c =
    let k = c.self.inside in
    let l : c.args.i < length k.endings.items = omega (arith, c.len.ensures, c.if-i-len.false, k.endings.ok.0) in
    let r = subst (IsRowAt k.terms.items 0 (vec_len k.terms) k.endings.items c.args.i) (sym c.index.ensures) (row_at k.terms.items 0 (vec_len k.terms) k.endings.items c.args.i c.index.result.now c.self.invariant.0 l) in
    let e = rw c.as_slice.ensures.value at c.start_of-start.ensures in
    let p = rw (c.as_slice-2.ensures.value, e) at c.part.ensures in
    rw p (ordered_at _ c.args.i _ c.self.invariant.1 r.row)
