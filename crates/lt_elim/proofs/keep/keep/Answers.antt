use Rattle.std.proofs.Common.{◌≡◌, refl, sym, subst, rules, inl, inr, arith, ℕ, ℤ, pos, ◌<ℤ◌, List, [], ◌∷◌, true, false, Option, length, vec_len}
use Rattle.std.specs.Prelude.{int_lt, ◌==◌}
use Rattle.std.proofs.lemmas.Int.{ints}
use Rattle.lt_lin.specs.declared.row.Row.{Row}
use Rattle.lt_lin.specs.Terms.{Term}
use Rattle.lt_elim.specs.declared.event.Event as code
use Rattle.lt_elim.specs.Tracing.{Traced}
use Rattle.lt_elim.proofs.Tracing.{traced_refuted, traced_dropped, traced_kept}
use Rattle.std.proofs.lemmas.Int.{to_z-of_z}
use mir.Val.{SFits}
use mir.Syntax.{w128}
use Rattle.lt_elim.proofs.KeptRows.{kept_many, kept_few}
use Rattle.lt_elim.proofs.keep.keep.Goals as goal
use Rattle.lt_elim.proofs.keep.keep.Goals.{else-limited-via-then-limited+else-len-gt-ROW_LIMIT, else-limited-via-else-limited, then-row-lt0, else-row-lt0}

pub returns-then-len-gt-ROW_LIMIT-clause-kept : goal.returns-then-len-gt-ROW_LIMIT-clause-kept
returns-then-len-gt-ROW_LIMIT-clause-kept c =
    let f : SFits w128 c.args.row.constant = search rules in
    let s : SFits w128 c.in_ok-row.row.constant = search rules in
    let n : vec_len c.in_ok-row.row.terms ≡ length c.in_ok-row.row.terms.items = search rules in
    let e = simp to_z-of_z at c.in_ok-row.ensures.row in
    let p = simp to_z-of_z at c.in_ok-put.ensures.rows in
    kept_many c.args.limited c.args.variable c.args.kept.now.rows (record { terms = c.args.row.terms.items; constant = c.args.row.constant }) (record { terms = c.in_ok-row.row.terms.items; constant = c.in_ok-row.row.constant }) c.put.new.self.rows (vec_len c.in_ok-row.row.terms) c.len.result e n c.if-is_empty.ensures p c.if-limited.true c.if-len-gt-ROW_LIMIT.true c.len.ensures

pub returns-else-limited-clause-kept : goal.returns-else-limited-clause-kept
returns-else-limited-clause-kept c =
    let f : SFits w128 c.args.row.constant = search rules in
    let s : SFits w128 c.in_ok-row.row.constant = search rules in
    let n : vec_len c.in_ok-row.row.terms ≡ length c.in_ok-row.row.terms.items = search rules in
    let e = simp to_z-of_z at c.in_ok-row.ensures.row in
    let p = simp to_z-of_z at c.in_ok-put.ensures.rows in
    elim c.else-limited.branch [
      | else-limited-via-then-limited+else-len-gt-ROW_LIMIT w ↦ kept_few c.args.limited c.args.variable c.args.kept.now.rows (record { terms = c.args.row.terms.items; constant = c.args.row.constant }) (record { terms = c.in_ok-row.row.terms.items; constant = c.in_ok-row.row.constant }) c.put.new.self.rows (vec_len c.in_ok-row.row.terms) e n c.if-is_empty.ensures p (inr (omega (arith, w.len.ensures)))
      | else-limited-via-else-limited w ↦ kept_few c.args.limited c.args.variable c.args.kept.now.rows (record { terms = c.args.row.terms.items; constant = c.args.row.constant }) (record { terms = c.in_ok-row.row.terms.items; constant = c.in_ok-row.row.constant }) c.put.new.self.rows (vec_len c.in_ok-row.row.terms) e n c.if-is_empty.ensures p (inl w.if-limited.false)
    ]

empty_terms : (m : ℕ) (ts : List Term) → m ≡ length ts → true ≡ (m == 0) → ts ≡ []
empty_terms m [] e h = refl
empty_terms m (t ∷ ts) e h = absurd (let k : (m == 0) ≡ false = grind (arith, e) in cc)

below_zero : (z : ℤ) → int_lt z (pos 0) ≡ true → z <ℤ pos 0
below_zero z e = grind (arith, ints)

pub returns-then-is_empty-clause-traced : goal.returns-then-is_empty-clause-traced
returns-then-is_empty-clause-traced c =
    let f : SFits w128 c.args.row.constant = search rules in
    let s : SFits w128 c.in_ok-row.row.constant = search rules in
    let d : SFits w128 c.in_ok-row.row.divisor = search rules in
    let n : vec_len c.in_ok-row.row.terms ≡ length c.in_ok-row.row.terms.items = search rules in
    let q = simp to_z-of_z at c.in_ok-row.ensures.quotient in
    let l = simp to_z-of_z at c.in_ok-number.ensures in
    let r : Row = record { terms = c.in_ok-row.row.terms.items; constant = c.in_ok-row.row.constant } in
    λ rows known t k.
    let g = l rows known (record { terms = c.args.row.terms.items; constant = c.args.row.constant }) r t.derives k.0 q in
    elim c.if-row-lt0.branch [
      | then-row-lt0 w ↦
          subst (λ (e : Option code.Event). Traced rows known e c.log_division.new.log c.args.kept.now.numbered) (sym w.result-is)
          (traced_refuted rows known r c.log_division.new.log c.in_ok-number.number g (empty_terms (vec_len c.in_ok-row.row.terms) c.in_ok-row.row.terms.items n c.if-is_empty.ensures) (below_zero c.in_ok-row.row.constant (simp to_z-of_z at w.if-row-lt0.true)))
      | else-row-lt0 w ↦
          subst (λ (e : Option code.Event). Traced rows known e c.log_division.new.log c.args.kept.now.numbered) (sym w.result-is)
          (traced_dropped rows known r c.log_division.new.log c.in_ok-number.number c.args.kept.now.numbered g t.are_known)
    ]

pub returns-else-limited-clause-traced : goal.returns-else-limited-clause-traced
returns-else-limited-clause-traced c =
    let f : SFits w128 c.args.row.constant = search rules in
    let s : SFits w128 c.in_ok-row.row.constant = search rules in
    let d : SFits w128 c.in_ok-row.row.divisor = search rules in
    let q = simp to_z-of_z at c.in_ok-row.ensures.quotient in
    let l = simp to_z-of_z at c.in_ok-number.ensures in
    let p = simp to_z-of_z at c.in_ok-put.ensures.known in
    let r : Row = record { terms = c.in_ok-row.row.terms.items; constant = c.in_ok-row.row.constant } in
    λ rows known t k.
    let g = l rows known (record { terms = c.args.row.terms.items; constant = c.args.row.constant }) r t.derives k.0 q in
    traced_kept rows known r c.log_division.new.log c.in_ok-number.number c.args.kept.now.numbered c.put.new.self.numbered g t.are_known p
