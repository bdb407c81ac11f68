-- A pair's row is added to a sum.
use Rattle.std.proofs.Common.{◌≡◌, refl, sym, ◌∙◌, ap, subst, ℕ, ℤ, pos, ◌+ℤ◌, ◌*ℤ◌, ◌≤ℤ◌, ◌+◌, ◌<◌, ◌≤◌, List, [], ◌∷◌, Some, None, ◌↔◌, length, get_or, drop, drop-cons, add-one}
use Rattle.std.proofs.Math.ListN.{drop_of_length-le}
use Rattle.std.specs.Prelude.{slice_get}
use Rattle.lt_lin.specs.declared.row.Row.{Row}
use Rattle.lt_lin.specs.Terms.{Term, IsOrdered, factor, Fits}
use Rattle.lt_lin.specs.Refutation.{SumsTo, IsSumOnto, IsCombination}
use Rattle.lt_lin.specs.Room.{terms_added, terms_in}
use Rattle.lt_lin.specs.Adding.{CanAdd, IsAdded, AddsPair}
use Rattle.lt_lin.proofs.Factors.{same_terms}

pub first_pair : (part : Row → ℤ) (known : List Row) (b : ℤ) (p : ℕ × ℤ) (ps : List (ℕ × ℤ)) (s : ℤ) (q : Row) → SumsTo part known b (p ∷ ps) s → slice_get known p.0 ≡ Some q → (pos 0 ≤ℤ p.1) × Fits (p.1 *ℤ part q) × Fits (b +ℤ p.1 *ℤ part q) × SumsTo part known (b +ℤ p.1 *ℤ part q) ps s
first_pair part known b p ps s q h e =
    let some : Some h.0 ≡ Some q = sym h.1 ∙ e in
    let is : h.0 ≡ q = cc in
    subst (λ (z : Row). (pos 0 ≤ℤ p.1) × Fits (p.1 *ℤ part z) × Fits (b +ℤ p.1 *ℤ part z) × SumsTo part known (b +ℤ p.1 *ℤ part z) ps s) is (h.2, h.3, h.4, h.5)

pub adds : (known : List Row) (before after q : Row) (p : ℕ × ℤ) → slice_get known p.0 ≡ Some q → pos 0 ≤ℤ p.1 → IsAdded before.terms p.1 q.terms after.terms → Fits (p.1 *ℤ q.constant) × Fits (before.constant +ℤ p.1 *ℤ q.constant) → before.constant +ℤ p.1 *ℤ q.constant ≡ after.constant → AddsPair known before p (Some after)
adds known before after q p e up a f c = λ ps r. (
  (λ h. record {
    ordered = h.ordered;
    factors = λ x. (q, e, up, (a.fits x).0, (a.fits x).1, subst (λ (z : ℤ). SumsTo (λ q. factor x q.terms) known z ps (factor x r.terms)) (a.factors x) (h.factors x));
    constant = (q, e, up, f.0, f.1, subst (λ (z : ℤ). SumsTo (λ q. q.constant) known z ps r.constant) (sym c) h.constant);
  }),
  (λ h. record {
    ordered = h.ordered;
    factors = λ x. subst (λ (z : ℤ). SumsTo (λ q. factor x q.terms) known z ps (factor x r.terms)) (sym (a.factors x)) (first_pair (λ q. factor x q.terms) known (factor x before.terms) p ps (factor x r.terms) q (h.factors x) e).3;
    constant = subst (λ (z : ℤ). SumsTo (λ q. q.constant) known z ps r.constant) c (first_pair (λ q. q.constant) known before.constant p ps r.constant q h.constant e).3;
  }),
)

pub adds_no_row : (known : List Row) (before : Row) (p : ℕ × ℤ) → slice_get known p.0 ≡ None → AddsPair known before p None
adds_no_row known before p e = λ ps r h.
    let f : Some h.constant.0 ≡ None = sym h.constant.1 ∙ e in
    absurd (cc)

pub adds_none : (known : List Row) (before q : Row) (p : ℕ × ℤ) → slice_get known p.0 ≡ Some q → (pos 0 ≤ℤ p.1 → Fits (p.1 *ℤ q.constant) → Fits (before.constant +ℤ p.1 *ℤ q.constant) → CanAdd before.terms p.1 q.terms → ⊥) → AddsPair known before p None
adds_none known before q p e no_sum = λ ps r h.
    let c = first_pair (λ q. q.constant) known before.constant p ps r.constant q h.constant e in
    no_sum c.0 c.1 c.2 (λ x.
    let g = first_pair (λ q. factor x q.terms) known (factor x before.terms) p ps (factor x r.terms) q (h.factors x) e in
    (g.1, g.2))

-- ---- there is one sum
sums_same : (part : Row → ℤ) (known : List Row) (b : ℤ) (ps : List (ℕ × ℤ)) (s t : ℤ) → SumsTo part known b ps s → SumsTo part known b ps t → s ≡ t
sums_same part known b [] s t h k = sym h ∙ k
sums_same part known b (p ∷ ps) s t h k = sums_same part known (b +ℤ p.1 *ℤ part h.0) ps s t h.5 (first_pair part known b p ps t h.0 k h.1).3

pub one_sum : (known : List Row) (before : Row) (ps : List (ℕ × ℤ)) (r s : Row) → IsSumOnto known before ps r → IsSumOnto known before ps s → r ≡ s
one_sum known before ps r s h k =
    let e : r.terms ≡ s.terms = same_terms 0 0 r.terms s.terms h.ordered k.ordered (λ x. sums_same (λ q. factor x q.terms) known (factor x before.terms) ps (factor x r.terms) (factor x s.terms) (h.factors x) (k.factors x)) in
    let f : r.constant ≡ s.constant = sums_same (λ q. q.constant) known before.constant ps r.constant s.constant h.constant k.constant in
    ap (λ (ts : List Term). record { terms = ts; constant = r.constant }) e ∙ ap (λ (c : ℤ). record { terms = s.terms; constant = c }) f

-- ---- a loop over the pairs
pub sum_step : (known : List Row) (pairs : List (ℕ × ℤ)) (i : ℕ) (d : ℕ × ℤ) (before after : Row) → i < length pairs → AddsPair known before (get_or pairs i d) (Some after) → ((r : Row) → (IsSumOnto known before (drop i pairs) r ↔ IsCombination known pairs r)) → (r : Row) → (IsSumOnto known after (drop (i + 1) pairs) r ↔ IsCombination known pairs r)
sum_step known pairs i d before after h a all r =
    let e : drop i pairs ≡ get_or pairs i d ∷ drop (i + 1) pairs = rw add-one (drop-cons pairs i d h) in
    let f = rw e at (all r) in
    let g = a (drop (i + 1) pairs) r in
    ((λ k. f.0 (g.0 k)), (λ k. g.1 (f.1 k)))

pub sum_stop : (known : List Row) (pairs : List (ℕ × ℤ)) (i : ℕ) (d : ℕ × ℤ) (before : Row) → i < length pairs → AddsPair known before (get_or pairs i d) None → ((r : Row) → (IsSumOnto known before (drop i pairs) r ↔ IsCombination known pairs r)) → (r : Row) → IsCombination known pairs r → ⊥
sum_stop known pairs i d before h a all r k =
    let e : drop i pairs ≡ get_or pairs i d ∷ drop (i + 1) pairs = rw add-one (drop-cons pairs i d h) in
    let f = rw e at (all r) in
    a (drop (i + 1) pairs) r (f.1 k)

pub sum_end : (known : List Row) (pairs : List (ℕ × ℤ)) (i : ℕ) (after : Row) → length pairs ≤ i → IsOrdered after.terms → ((r : Row) → (IsSumOnto known after (drop i pairs) r ↔ IsCombination known pairs r)) → IsCombination known pairs after
sum_end known pairs i after h o all =
    let f = rw (drop_of_length-le pairs h) at (all after) in
    f.0 (record { ordered = o; factors = λ x. refl; constant = refl })

pub room_step : (known : List Row) (pairs : List (ℕ × ℤ)) (i : ℕ) (d : ℕ × ℤ) → i < length pairs → terms_added known (drop i pairs) ≡ terms_in known (get_or pairs i d).0 + terms_added known (drop (i + 1) pairs)
room_step known pairs i d h =
    let e : drop i pairs ≡ get_or pairs i d ∷ drop (i + 1) pairs = rw add-one (drop-cons pairs i d h) in
    ap (terms_added known) e
