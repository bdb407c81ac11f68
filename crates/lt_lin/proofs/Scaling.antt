-- Factors with the other sign, and factors times a number.
use Rattle.std.proofs.Common.{arith, ◌≡◌, refl, sym, ◌∙◌, ap, subst, ℕ, suc, zero, ℤ, pos, ◌*ℤ◌, ◌+◌, ◌<◌, List, [], ◌∷◌, ◌++◌, length, get_or, take, add-one}
use Rattle.std.specs.Prelude.{neg_ℤ, All}
use Rattle.std.proofs.lemmas.List.Elements.{All-append, All-nil, All-cons}
use Rattle.std.proofs.Math.Seq.{take-suc}
use Rattle.std.proofs.Math.IntN.{*ℤ-zero}
use Rattle.std.proofs.lemmas.Int.{ints}
use Rattle.lt_lin.specs.Terms.{Term, IsOrderedFrom, negated, scaled}

pub negated_ordered : (m : ℕ) (ts : List Term) → IsOrderedFrom m ts → IsOrderedFrom m (negated ts)
negated_ordered m [] o = tt
negated_ordered m (t ∷ ts) o = (o.0, (λ e. o.1 (back t.1 e)), negated_ordered (t.0 + 1) ts o.2)
  where
    back : (z : ℤ) → neg_ℤ z ≡ pos 0 → z ≡ pos 0
    back z e = omega (arith, ints)

pub length-negated : (ts : List Term) → length (negated ts) ≡ length ts
length-negated [] = refl
length-negated (t ∷ ts) = ap suc (length-negated ts)

pub length-scaled : (d : ℤ) (ts : List Term) → length (scaled d ts) ≡ length ts
length-scaled d [] = refl
length-scaled d (t ∷ ts) = ap suc (length-scaled d ts)

pub scaled_ordered : (m : ℕ) (d : ℤ) (ts : List Term) → IsOrderedFrom m (scaled d ts) → IsOrderedFrom m ts
scaled_ordered m d [] o = tt
scaled_ordered m d (t ∷ ts) o = (o.0, (λ e. o.1 (ap (λ z. d *ℤ z) e ∙ *ℤ-zero d)), scaled_ordered (t.0 + 1) d ts o.2)

pub scaled-append : (d : ℤ) (a b : List Term) → scaled d (a ++ b) ≡ scaled d a ++ scaled d b
scaled-append d [] b = refl
scaled-append d (t ∷ a) b = ap (λ k. (t.0, d *ℤ t.1) ∷ k) (scaled-append d a b)

pub scaled_more : (d : ℤ) (terms new : List Term) (i x : ℕ) (c q : ℤ) (e : Term) → i < length terms → take i terms ≡ scaled d new → (get_or terms i e).0 ≡ x → (get_or terms i e).1 ≡ c → c ≡ d *ℤ q → take (i + 1) terms ≡ scaled d (new ++ (x, q) ∷ [])
scaled_more d terms new i x c q e h p ex ec eq =
    let item : get_or terms i e ≡ (x, d *ℤ q) = ap (λ (y : ℕ). (y, (get_or terms i e).1)) ex ∙ ap (λ (z : ℤ). (x, z)) (ec ∙ eq) in
    rw (add-one, take-suc terms i e h) (ap (λ k. k ++ get_or terms i e ∷ []) p ∙ ap (λ (t : Term). scaled d new ++ t ∷ []) item ∙ sym (scaled-append d new ((x, q) ∷ [])))

pub scaled_at : (d : ℤ) (ts terms : List Term) (i : ℕ) (e : Term) → i < length terms → terms ≡ scaled d ts → (q : ℤ) × ((get_or terms i e).1 ≡ d *ℤ q)
scaled_at d ts terms i e h is =
    let p = at ts i (subst (λ (k : List Term). i < length k) is h) in
    (p.0, ap (λ (k : List Term). (get_or k i e).1) is ∙ p.1)
  where
    at : (ts : List Term) (i : ℕ) → i < length (scaled d ts) → (q : ℤ) × ((get_or (scaled d ts) i e).1 ≡ d *ℤ q)
    at [] i h = absurd (omega arith)
    at (t ∷ ts) zero h = (t.1, refl)
    at (t ∷ ts) (suc i) h = at ts i (omega arith)

-- one more item of which it holds
pub All-more : (P : Term → Type 0) (ts : List Term) (i : ℕ) (e : Term) → i < length ts → All P (take i ts) → P (get_or ts i e) → All P (take (i + 1) ts)
All-more P ts i e h a p =
    subst (All P) (sym (rw (add-one, take-suc ts i e h) refl)) (All-append P (take i ts) (get_or ts i e ∷ []) a (All-cons P (get_or ts i e) [] p (All-nil P)))
