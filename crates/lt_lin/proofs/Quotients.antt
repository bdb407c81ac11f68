-- There is one row that a division gives.
use Rattle.std.proofs.Common.{arith, ◌≡◌, refl, sym, ◌∙◌, ap, subst, ℕ, ℤ, pos, ◌+ℤ◌, ◌*ℤ◌, ◌≤ℤ◌, ◌<ℤ◌, List, [], ◌∷◌, Some}
use Rattle.std.proofs.lemmas.Int.{ints}
use Rattle.lt_lin.specs.declared.row.Row.{Row}
use Rattle.lt_lin.specs.Terms.{Term, scaled}
use Rattle.lt_lin.specs.Refutation.{IsQuotient, IsDivision}
use Rattle.lt_lin.proofs.Whole.{floor_unique}

cancel : (d a b : ℤ) → pos 0 <ℤ d → d *ℤ a ≡ d *ℤ b → a ≡ b
cancel d a b h e = floor_unique d a b (d *ℤ a) h (same (d *ℤ a)) (above (d *ℤ a)) (low (d *ℤ b) (d *ℤ a) e) (high (d *ℤ b) (d *ℤ a) e)
  where
    same : (p : ℤ) → p ≤ℤ p
    same p = omega (arith, ints)

    above : (p : ℤ) → p <ℤ (p +ℤ d)
    above p = omega (arith, ints)

    low : (q p : ℤ) → p ≡ q → q ≤ℤ p
    low q p e = omega (arith, ints)

    high : (q p : ℤ) → p ≡ q → p <ℤ (q +ℤ d)
    high q p e = omega (arith, ints)

scaled_same : (d : ℤ) (a b : List Term) → pos 0 <ℤ d → scaled d a ≡ scaled d b → a ≡ b
scaled_same d [] [] h e = refl
scaled_same d [] (t ∷ b) h e = absurd (cc)
scaled_same d (s ∷ a) [] h e = absurd (cc)
scaled_same d (s ∷ a) (t ∷ b) h e =
    let head : (s.0, d *ℤ s.1) ≡ (t.0, d *ℤ t.1) = cc in
    let rest : scaled d a ≡ scaled d b = cc in
    let ev : s.0 ≡ t.0 = ap (λ (p : ℕ × ℤ). p.0) head in
    let ec : s.1 ≡ t.1 = cancel d s.1 t.1 h (ap (λ (p : ℕ × ℤ). p.1) head) in
    let ih : a ≡ b = scaled_same d a b h rest in
    let et : s ≡ t = ap (λ (x : ℕ). (x, s.1)) ev ∙ ap (λ (c : ℤ). (t.0, c)) ec in
    ap (λ (x : Term). x ∷ a) et ∙ ap (λ (x : List Term). t ∷ x) ih

one_quotient : (q : Row) (d : ℤ) (r s : Row) → IsQuotient q d r → IsQuotient q d s → r ≡ s
one_quotient q d r s h k =
    let e : r.terms ≡ s.terms = scaled_same d r.terms s.terms h.positive (sym h.terms ∙ k.terms) in
    let f : r.constant ≡ s.constant = floor_unique d r.constant s.constant q.constant h.positive h.at_most h.above k.at_most k.above in
    ap (λ (ts : List Term). record { terms = ts; constant = r.constant }) e ∙ ap (λ (c : ℤ). record { terms = s.terms; constant = c }) f

pub one_division : (known : List Row) (i : ℕ) (d : ℤ) (r s : Row) → IsDivision known i d r → IsDivision known i d s → r ≡ s
one_division known i d r s h k =
    let some : Some k.0 ≡ Some h.0 = sym k.1 ∙ h.1 in
    let e : k.0 ≡ h.0 = cc in
    one_quotient h.0 d r s h.2 (subst (λ (q : Row). IsQuotient q d s) e k.2)
