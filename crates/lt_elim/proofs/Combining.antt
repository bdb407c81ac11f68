-- The combination of two rows, summed up part by part.
use Rattle.std.proofs.Common.{arith, ◌≡◌, refl, sym, ◌∙◌, ap, subst, ℕ, zero, suc, ℤ, pos, negsuc, ◌+ℤ◌, ◌*ℤ◌, ◌+◌, ◌^◌, ◌<◌, ◌≤◌, List, [], ◌∷◌, Bool, true, false, ◌&&◌, ◌||◌, ◌⊎◌, inl, inr, Option, Some, None}
use Rattle.std.specs.Prelude.{unsigned_abs, int_lt, ◌==◌}
use Rattle.std.proofs.lemmas.Int.{ints}
use Rattle.std.proofs.lemmas.Bool.{cases_order}
use Rattle.std.proofs.lemmas.Nat.Gcd.{le_of_dvd}
use Rattle.lt_lin.specs.declared.row.Row.{Row}
use Rattle.lt_lin.specs.Terms.{Term, IsOrderedFrom, IsOrdered, factor, Fits}
use Rattle.lt_lin.specs.Adding.{CanAdd, IsAdded}
use Rattle.lt_lin.proofs.Factors.{factor_head, factor_other, factor_below, same_terms as equal_terms}
use Rattle.lt_elim.specs.Divisor.{gcd_of, content, passes}
use Rattle.lt_elim.specs.Combination.{Multipliers, multipliers_of, multipliers, sum_of, passes_in, any_below, is_wide, terms_below, combination}
use Rattle.lt_elim.specs.Summing.{part, CanSum, IsSum, any_passes, is_past, PartsFit, CanCombine}
use Rattle.lt_elim.proofs.Divisors.{gcd_is, divisor_positive, content_divides}
use Rattle.lt_elim.proofs.Edges.{below_ordered, below_factor, above_factor}
use Rattle.std.specs.Prelude.{Result, Ok, Err, IfOk, MatchOption}
use Rattle.lt_elim.specs.declared.combination.Sum.{Sum}
use Rattle.lt_elim.specs.Progress.{found_factor}
use Rattle.lt_elim.proofs.KeptRows.{found_is}
use Rattle.lt_elim.proofs.Refuting.{either_false, none_below, part_fits, sum_at_own}

-- ---- numbers that pass the limit
abbrev row : List Term → ℤ → Row
row ts k = record { terms = ts; constant = k }

pub same_factor : (x : ℕ) (t : Term) (ts : List Term) (m : ℕ) → IsOrderedFrom m (t ∷ ts) → ((x ≡ t.0) × (factor x (t ∷ ts) ≡ t.1)) ⊎ (factor x (t ∷ ts) ≡ factor x ts)
same_factor x t ts m o = by_test (x == t.0) refl
  where
    by_test : (b : Bool) → (x == t.0) ≡ b → ((x ≡ t.0) × (factor x (t ∷ ts) ≡ t.1)) ⊎ (factor x (t ∷ ts) ≡ factor x ts)
    by_test true e = let is : x ≡ t.0 = grind arith in inl (is, ap (λ (y : ℕ). factor y (t ∷ ts)) is ∙ factor_head t ts m o)
    by_test false e = inr (factor_other x t ts (λ (is : x ≡ t.0). grind arith))

none_passes : (m : ℕ) (ts : List Term) → IsOrderedFrom m ts → any_passes ts ≡ false → (x : ℕ) → passes (factor x ts) ≡ false
none_passes m [] o e x = refl
none_passes m (t ∷ ts) o e x =
    let both = either_false (passes t.1) (any_passes ts) e in
    elim (same_factor x t ts m o) [ inl h ↦ ap passes h.1 ∙ both.0 | inr h ↦ ap passes h ∙ none_passes (t.0 + 1) ts o.2 both.1 x ]

some_passes : (m : ℕ) (ts : List Term) → IsOrderedFrom m ts → any_passes ts ≡ true → ((x : ℕ) → passes (factor x ts) ≡ false) → ⊥
some_passes m [] o e h = absurd (cc)
some_passes m (t ∷ ts) o e h = by_test (passes t.1) refl (some_passes (t.0 + 1) ts o.2)
  where
    rest_none : (x : ℕ) → passes (factor x ts) ≡ false
    rest_none x = elim (same_factor x t ts m o) [
      | inl k ↦ ap (λ (y : ℕ). passes (factor y ts)) k.0 ∙ ap passes (factor_below t.0 (t.0 + 1) ts o.2 (omega arith))
      | inr k ↦ ap passes (sym k) ∙ h x
    ]

    by_test : (b : Bool) → passes t.1 ≡ b → (any_passes ts ≡ true → ((x : ℕ) → passes (factor x ts) ≡ false) → ⊥) → ⊥
    by_test true g rest = absurd (let k : passes t.1 ≡ false = ap passes (sym (factor_head t ts m o)) ∙ h t.0 in cc)
    by_test false g rest = rest (ap (λ (b : Bool). b || any_passes ts) (sym g) ∙ e) rest_none

-- ---- one row is added
not_past : (limited : Bool) (k : ℤ) (ts : List Term) → is_past limited k ts ≡ false → (limited ≡ false) ⊎ ((passes k ≡ false) × (any_passes ts ≡ false))
not_past true k ts e = inr (either_false (passes k) (any_passes ts) e)
not_past false k ts e = inl refl

either_true : (a b : Bool) → (a || b) ≡ true → (a ≡ true) ⊎ (b ≡ true)
either_true true b e = inl refl
either_true false b e = inr e

pub within_parts : (limited : Bool) (ts : List Term) (k : ℤ) → IsOrdered ts → (limited ≡ false) ⊎ ((passes k ≡ false) × (any_passes ts ≡ false)) → (p : Option ℕ) → limited ≡ true → passes (part p (row ts k)) ≡ false
within_parts limited ts k o (inl f) p l = absurd (cc)
within_parts limited ts k o (inr f) None l = f.0
within_parts limited ts k o (inr f) (Some x) l = none_passes 0 ts o f.1 x

pub sum_made : (limited : Bool) (q : Row) (by : ℤ) (r : Row) (ts : List Term) (k : ℤ) → IsAdded q.terms by r.terms ts → (Fits (by *ℤ r.constant) × Fits (q.constant +ℤ by *ℤ r.constant)) × (k ≡ q.constant +ℤ by *ℤ r.constant) → is_past limited k ts ≡ false → IsSum limited q by r (row ts k)
sum_made limited q by r ts k a c w = record { ordered = a.ordered; can = can; parts = parts }
  where
    parts : (p : Option ℕ) → part p (row ts k) ≡ part p q +ℤ by *ℤ part p r
    parts None = c.1
    parts (Some x) = a.factors x

    fits : (p : Option ℕ) → Fits (by *ℤ part p r) × Fits (part p q +ℤ by *ℤ part p r)
    fits None = c.0
    fits (Some x) = a.fits x

    can : CanSum limited q by r
    can p = ((fits p).0, (fits p).1, λ l. ap passes (sym (parts p)) ∙ within_parts limited ts k a.ordered (not_past limited k ts w) p l)

pub constant_unfit : (limited : Bool) (q : Row) (by : ℤ) (r : Row) → ((Fits (by *ℤ r.constant) × Fits (q.constant +ℤ by *ℤ r.constant)) → ⊥) → CanSum limited q by r → ⊥
constant_unfit limited q by r h can = h ((can None).0, (can None).1)

pub terms_unfit : (limited : Bool) (q : Row) (by : ℤ) (r : Row) → (CanAdd q.terms by r.terms → ⊥) → CanSum limited q by r → ⊥
terms_unfit limited q by r h can = h (λ x. ((can (Some x)).0, (can (Some x)).1))

pub sum_past : (limited : Bool) (q : Row) (by : ℤ) (r : Row) (ts : List Term) (k : ℤ) → IsAdded q.terms by r.terms ts → k ≡ q.constant +ℤ by *ℤ r.constant → is_past limited k ts ≡ true → CanSum limited q by r → ⊥
sum_past false q by r ts k a e p can = absurd (cc)
sum_past true q by r ts k a e p can = elim (either_true (passes k) (any_passes ts) p) [
  | inl h ↦ absurd (let f : passes k ≡ false = ap passes e ∙ (can None).2 refl in cc)
  | inr h ↦ some_passes 0 ts a.ordered h (λ x. ap passes (a.factors x) ∙ (can (Some x)).2 refl)
]

-- ---- what doesn't pass the limit can be summed up
abbrev nothing : Row
nothing = row [] (pos 0)

part_nothing : (p : Option ℕ) → part p nothing ≡ pos 0
part_nothing None = refl
part_nothing (Some x) = refl

pub record PartGoes (limited : Bool) (m : Multipliers) (a b : ℤ) : Type 0 where
  pub fits : PartsFit m a b
  within : limited ≡ true → (passes (m.of_raising *ℤ a) ≡ false) × (passes (m.of_lowering *ℤ b) ≡ false) × (passes (sum_of m a b) ≡ false)

within_three : (m : Multipliers) (a b : ℤ) → passes_in m a b ≡ false → (passes (m.of_raising *ℤ a) ≡ false) × (passes (m.of_lowering *ℤ b) ≡ false) × (passes (sum_of m a b) ≡ false)
within_three m a b e =
    let outer = either_false (passes (m.of_raising *ℤ a) || passes (m.of_lowering *ℤ b)) (passes (sum_of m a b)) e in
    let inner = either_false (passes (m.of_raising *ℤ a)) (passes (m.of_lowering *ℤ b)) outer.0 in
    (inner.0, inner.1, outer.1)

goes_within : (limited : Bool) (m : Multipliers) (a b : ℤ) → passes_in m a b ≡ false → PartGoes limited m a b
goes_within limited m a b e = let f = part_fits m a b e in record { fits = record { raising = f.raising; lowering = f.lowering; sum = f.sum }; within = λ l. within_three m a b e }

zero_products : (z a : ℤ) → a ≡ pos 0 → z *ℤ a ≡ pos 0
zero_products z a e = ap (λ (y : ℤ). z *ℤ y) e ∙ times_zero z
  where
    times_zero : (z : ℤ) → z *ℤ pos 0 ≡ pos 0
    times_zero z = omega (arith, ints)

nothing_passes : (m : Multipliers) (a b : ℤ) → a ≡ pos 0 → b ≡ pos 0 → passes_in m a b ≡ false
nothing_passes m a b e f = three (m.of_raising *ℤ a) (m.of_lowering *ℤ b) (zero_products m.of_raising a e) (zero_products m.of_lowering b f)
  where
    three : (x y : ℤ) → x ≡ pos 0 → y ≡ pos 0 → (passes x || passes y || passes (x +ℤ y)) ≡ false
    three x y g h = ap (λ (z : ℤ). passes z || passes y || passes (z +ℤ y)) g ∙ ap (λ (z : ℤ). passes (pos 0) || passes z || passes (pos 0 +ℤ z)) h

part_not_wide : (v : ℕ) (p n : Row) (limited : Bool) → CanCombine limited v p n → is_wide v p n ≡ false → (x : Option ℕ) → passes_in (multipliers v p n) (part x p) (part x n) ≡ false
unfolding is_wide
part_not_wide v p n limited c e = by_part
  where
    both : (any_below (suc v) (λ x. passes_in (multipliers v p n) (factor x p.terms) (factor x n.terms)) ≡ false) × (passes_in (multipliers v p n) p.constant n.constant ≡ false)
    both = either_false (any_below (suc v) (λ x. passes_in (multipliers v p n) (factor x p.terms) (factor x n.terms))) (passes_in (multipliers v p n) p.constant n.constant) e

    by_place : (x : ℕ) → (x ≡ suc v) ⊎ ((x < suc v) ⊎ (suc v < x)) → passes_in (multipliers v p n) (factor x p.terms) (factor x n.terms) ≡ false
    by_place x (inl h) = nothing_passes (multipliers v p n) (factor x p.terms) (factor x n.terms) (c.raising_above x (omega arith)) (c.lowering_above x (omega arith))
    by_place x (inr (inl h)) = none_below (suc v) (λ x. passes_in (multipliers v p n) (factor x p.terms) (factor x n.terms)) both.0 x h
    by_place x (inr (inr h)) = nothing_passes (multipliers v p n) (factor x p.terms) (factor x n.terms) (c.raising_above x (omega arith)) (c.lowering_above x (omega arith))

    by_part : (x : Option ℕ) → passes_in (multipliers v p n) (part x p) (part x n) ≡ false
    by_part None = both.1
    by_part (Some x) = by_place x (cases_order x (suc v))

pub all_go : (limited : Bool) (v : ℕ) (p n : Row) → CanCombine limited v p n → (limited && is_wide v p n) ≡ false → (x : Option ℕ) → PartGoes limited (multipliers v p n) (part x p) (part x n)
all_go true v p n c e x = goes_within true (multipliers v p n) (part x p) (part x n) (part_not_wide v p n true c e x)
all_go false v p n c e x = record { fits = c.fits refl x; within = λ l. absurd (cc) }

is_true : (b : Bool) → (b ≡ false → ⊥) → b ≡ true
is_true true h = refl
is_true false h = absurd (h refl)

left_zero : (z : ℤ) → z ≡ pos 0 +ℤ z
left_zero z = omega (arith, ints)

can_first : (limited : Bool) (q r : Row) (by : ℤ) → ((x : Option ℕ) → part x q ≡ pos 0) → ((x : Option ℕ) → Fits (by *ℤ part x r) × (limited ≡ true → passes (by *ℤ part x r) ≡ false)) → CanSum limited q by r
can_first limited q r by z h p =
    let is : by *ℤ part p r ≡ part p q +ℤ by *ℤ part p r = left_zero (by *ℤ part p r) ∙ ap (λ (y : ℤ). y +ℤ by *ℤ part p r) (sym (z p)) in
    ((h p).0, subst Fits is (h p).0, λ l. ap passes (sym is) ∙ (h p).1 l)

pub raising_wide : (limited : Bool) (v : ℕ) (p n q : Row) (m : ℤ) → CanCombine limited v p n → m ≡ (multipliers v p n).of_raising → q.terms ≡ [] → q.constant ≡ pos 0 → (CanSum limited q m p → ⊥) → (limited && is_wide v p n) ≡ true
raising_wide limited v p n q m c e qt qc h =
    is_true (limited && is_wide v p n)
    (λ f. h (can_first limited q p m (zero_parts q qt qc)
    (λ x. let g = all_go limited v p n c f x in subst (λ (z : ℤ). Fits (z *ℤ part x p) × (limited ≡ true → passes (z *ℤ part x p) ≡ false)) (sym e) (g.fits.raising, λ l. (g.within l).0))))
  where
    zero_parts : (q : Row) → q.terms ≡ [] → q.constant ≡ pos 0 → (x : Option ℕ) → part x q ≡ pos 0
    zero_parts q t c None = c
    zero_parts q t c (Some x) = ap (factor x) t

pub lowering_wide : (limited : Bool) (v : ℕ) (p n q : Row) (m : ℤ) → CanCombine limited v p n → m ≡ (multipliers v p n).of_lowering → q.terms ≡ [] → q.constant ≡ pos 0 → (CanSum limited q m n → ⊥) → (limited && is_wide v p n) ≡ true
lowering_wide limited v p n q m c e qt qc h =
    is_true (limited && is_wide v p n)
    (λ f. h (can_first limited q n m (zero_parts q qt qc)
    (λ x. let g = all_go limited v p n c f x in subst (λ (z : ℤ). Fits (z *ℤ part x n) × (limited ≡ true → passes (z *ℤ part x n) ≡ false)) (sym e) (g.fits.lowering, λ l. (g.within l).1))))
  where
    zero_parts : (q : Row) → q.terms ≡ [] → q.constant ≡ pos 0 → (x : Option ℕ) → part x q ≡ pos 0
    zero_parts q t c None = c
    zero_parts q t c (Some x) = ap (factor x) t

-- the parts of the two multiples
pub record Multiples (v : ℕ) (p n raised lowered : Row) : Type 0 where
  pub of_raised : (x : Option ℕ) → part x raised ≡ (multipliers v p n).of_raising *ℤ part x p
  pub of_lowered : (x : Option ℕ) → part x lowered ≡ (multipliers v p n).of_lowering *ℤ part x n

from_nothing : (limited : Bool) (q : Row) (m k : ℤ) (r s : Row) → IsSum limited q m r s → q.terms ≡ [] → q.constant ≡ pos 0 → m ≡ k → (x : Option ℕ) → part x s ≡ k *ℤ part x r
from_nothing limited q m k r s h qt qc e x = h.parts x ∙ ap (λ (z : ℤ). z +ℤ m *ℤ part x r) (zero_part x) ∙ sym (left_zero (m *ℤ part x r)) ∙ ap (λ (z : ℤ). z *ℤ part x r) e
  where
    zero_part : (x : Option ℕ) → part x q ≡ pos 0
    zero_part None = qc
    zero_part (Some x) = ap (factor x) qt

once : (z : ℤ) → z ≡ pos 1 *ℤ z
once z = omega (arith, ints)

sums_parts : (v : ℕ) (p n raised lowered : Row) → Multiples v p n raised lowered → (x : Option ℕ) → sum_of (multipliers v p n) (part x p) (part x n) ≡ part x raised +ℤ pos 1 *ℤ part x lowered
sums_parts v p n raised lowered u x =
    ap (λ (z : ℤ). z +ℤ (multipliers v p n).of_lowering *ℤ part x n) (sym (u.of_raised x)) ∙ ap (λ (z : ℤ). part x raised +ℤ z) (sym (u.of_lowered x) ∙ once (part x lowered))

-- both multiples, from a sum of nothing
pub multiples : (limited : Bool) (v : ℕ) (p n q raised lowered : Row) (m k : ℤ) → q.terms ≡ [] → q.constant ≡ pos 0 → m ≡ (multipliers v p n).of_raising → k ≡ (multipliers v p n).of_lowering → IsSum limited q m p raised → IsSum limited q k n lowered → Multiples v p n raised lowered
multiples limited v p n q raised lowered m k qt qc em ek r l = record {
  of_raised = from_nothing limited q m (multipliers v p n).of_raising p raised r qt qc em;
  of_lowered = from_nothing limited q k (multipliers v p n).of_lowering n lowered l qt qc ek;
}

pub sum_wide : (limited : Bool) (v : ℕ) (p n raised lowered : Row) → CanCombine limited v p n → Multiples v p n raised lowered → (CanSum limited raised (pos 1) lowered → ⊥) → (limited && is_wide v p n) ≡ true
sum_wide limited v p n raised lowered c u h =
    is_true (limited && is_wide v p n) (λ f. h (λ x.
    let g = all_go limited v p n c f x in (
      subst Fits (sym (u.of_lowered x) ∙ once (part x lowered)) g.fits.lowering,
      subst Fits (sums_parts v p n raised lowered u x) g.fits.sum,
      λ l. ap passes (sym (sums_parts v p n raised lowered u x)) ∙ (g.within l).2,
    )))

none_any : (n : ℕ) (test : ℕ → Bool) → ((x : ℕ) → test x ≡ false) → any_below n test ≡ false
none_any zero test h = refl
none_any (suc n) test h = ap (λ (b : Bool). b || test n) (none_any n test h) ∙ h n

-- nothing passed the limit on the way
pub not_wide : (limited : Bool) (v : ℕ) (p n q raised lowered s : Row) (m k : ℤ) → q.terms ≡ [] → q.constant ≡ pos 0 → m ≡ (multipliers v p n).of_raising → k ≡ (multipliers v p n).of_lowering → IsSum limited q m p raised → IsSum limited q k n lowered → IsSum limited raised (pos 1) lowered s → (limited && is_wide v p n) ≡ false
unfolding is_wide
not_wide false v p n q raised lowered s m k qt qc em ek r l h = refl
not_wide true v p n q raised lowered s m k qt qc em ek r l h =
    ap (λ (b : Bool). b || passes_in (multipliers v p n) p.constant n.constant) (none_any (suc v) (λ x. passes_in (multipliers v p n) (factor x p.terms) (factor x n.terms)) (λ x. none (Some x))) ∙ none None
  where
    u : Multiples v p n raised lowered
    u = multiples true v p n q raised lowered m k qt qc em ek r l

    three : (a b c : Bool) → a ≡ false → b ≡ false → c ≡ false → (a || b || c) ≡ false
    three a b c e f g = ap (λ (z : Bool). z || b || c) e ∙ ap (λ (z : Bool). z || c) f ∙ g

    none : (x : Option ℕ) → passes_in (multipliers v p n) (part x p) (part x n) ≡ false
    none x =
        three (passes ((multipliers v p n).of_raising *ℤ part x p)) (passes ((multipliers v p n).of_lowering *ℤ part x n)) (passes (sum_of (multipliers v p n) (part x p) (part x n)))
        (ap passes (sym (u.of_raised x) ∙ r.parts x) ∙ (r.can x).2 refl)
        (ap passes (sym (u.of_lowered x) ∙ l.parts x) ∙ (l.can x).2 refl)
        (ap passes (sums_parts v p n raised lowered u x) ∙ (h.can x).2 refl)

pub is_combination : (limited : Bool) (v : ℕ) (p n raised lowered s : Row) → CanCombine limited v p n → Multiples v p n raised lowered → IsSum limited raised (pos 1) lowered s → s ≡ combination v p n
unfolding combination
is_combination limited v p n raised lowered s c u h =
    ap (λ (ts : List Term). row ts s.constant) (equal_terms 0 0 s.terms (terms_below v own) h.ordered (below_ordered v own) (λ x. by_place x (cases_order x v)))
    ∙ ap (row (terms_below v own)) (h.parts None ∙ sym (sums_parts v p n raised lowered u None))
  where
    own : ℕ → ℤ
    own x = sum_of (multipliers v p n) (factor x p.terms) (factor x n.terms)

    is_own : (x : ℕ) → factor x s.terms ≡ sum_of (multipliers v p n) (factor x p.terms) (factor x n.terms)
    is_own x = h.parts (Some x) ∙ sym (sums_parts v p n raised lowered u (Some x))

    zeros : (a b : ℤ) → a ≡ pos 0 → b ≡ pos 0 → sum_of (multipliers v p n) a b ≡ pos 0
    zeros a b e f = both ((multipliers v p n).of_raising *ℤ a) ((multipliers v p n).of_lowering *ℤ b) (zero_products (multipliers v p n).of_raising a e) (zero_products (multipliers v p n).of_lowering b f)
      where
        both : (x y : ℤ) → x ≡ pos 0 → y ≡ pos 0 → x +ℤ y ≡ pos 0
        both x y e f = omega (arith, ints)

    by_place : (x : ℕ) → (x ≡ v) ⊎ ((x < v) ⊎ (v < x)) → factor x s.terms ≡ factor x (terms_below v (λ x. sum_of (multipliers v p n) (factor x p.terms) (factor x n.terms)))
    by_place x (inl e) = is_own x ∙ ap (λ (y : ℕ). sum_of (multipliers v p n) (factor y p.terms) (factor y n.terms)) e ∙ sum_at_own v p n c.raises c.lowers ∙ sym (above_factor v (λ x. sum_of (multipliers v p n) (factor x p.terms) (factor x n.terms)) x (omega arith))
    by_place x (inr (inl l)) = is_own x ∙ sym (below_factor v (λ x. sum_of (multipliers v p n) (factor x p.terms) (factor x n.terms)) x l)
    by_place x (inr (inr l)) = is_own x ∙ zeros (factor x p.terms) (factor x n.terms) (c.raising_above x l) (c.lowering_above x l) ∙ sym (above_factor v (λ x. sum_of (multipliers v p n) (factor x p.terms) (factor x n.terms)) x (omega arith))

-- ---- the greatest common divisor of small factors is small
pub content_bound : (n : ℕ) (ts : List Term) → IsOrdered ts → ((x : ℕ) → unsigned_abs (factor x ts) ≤ n) → content ts ≤ n
content_bound n [] o h = omega arith
content_bound n (t ∷ ts) o h =
    let d = (content_divides (t ∷ ts)).0 in
    let some : 0 < unsigned_abs t.1 = positive t.1 o.1 in
    let l : content (t ∷ ts) ≤ unsigned_abs t.1 = le_of_dvd some d in
    let k : unsigned_abs (factor t.0 (t ∷ ts)) ≤ n = h t.0 in
    let e : unsigned_abs (factor t.0 (t ∷ ts)) ≡ unsigned_abs t.1 = ap unsigned_abs (factor_head t ts 0 o) in
    omega arith
  where
    positive : (z : ℤ) → (z ≡ pos 0 → ⊥) → 0 < unsigned_abs z
    positive (pos zero) h = absurd (h refl)
    positive (pos (suc k)) h = omega arith
    positive (negsuc k) h = omega arith

passes_bound : (z : ℤ) → passes z ≡ false → unsigned_abs z ≤ 2 ^ 120
passes_bound z e = grind arith

pub combined_small : (limited : Bool) (v : ℕ) (p n raised lowered s : Row) → CanCombine limited v p n → Multiples v p n raised lowered → IsSum limited raised (pos 1) lowered s → content s.terms < 2 ^ 127
combined_small true v p n raised lowered s c u h =
    let l : content s.terms ≤ 2 ^ 120 = content_bound (2 ^ 120) s.terms h.ordered (λ x. passes_bound (factor x s.terms) (ap passes (h.parts (Some x)) ∙ (h.can (Some x)).2 refl)) in
    omega arith
combined_small false v p n raised lowered s c u h = subst (λ (r : Row). content r.terms < 2 ^ 127) (sym (is_combination false v p n raised lowered s c u h)) (c.small refl)

-- ---- multipliers
pub size_positive : (z : ℤ) → (int_lt (pos 0) z ≡ true) ⊎ (int_lt z (pos 0) ≡ true) → 0 < unsigned_abs z
size_positive (pos zero) (inl e) = absurd (cc)
size_positive (pos zero) (inr e) = absurd (cc)
size_positive (pos (suc k)) e = omega arith
size_positive (negsuc k) e = omega arith

pub divisor_of : (up down : ℕ) → 0 < up → 0 < gcd_of up down
divisor_of up down h = divisor_positive (gcd_of up down) up (gcd_is up down).0 h

pub sizes_positive : (v : ℕ) (p n : Row) (limited : Bool) → CanCombine limited v p n → 0 < unsigned_abs (factor v p.terms)
sizes_positive v p n limited c = size_positive (factor v p.terms) (inl c.raises)

pub found_size : (v : ℕ) (ts us : List Term) (a : ℤ) (up : ℕ) → IsOrdered us → ts ≡ us → a ≡ found_factor v ts → up ≡ unsigned_abs a → up ≡ unsigned_abs (factor v us)
found_size v ts us a up o e f g = g ∙ ap unsigned_abs (f ∙ ap (found_factor v) e ∙ found_is v us o)

pub made_multipliers : (v : ℕ) (p n : Row) (m : Multipliers) (up down : ℕ) → up ≡ unsigned_abs (factor v p.terms) → down ≡ unsigned_abs (factor v n.terms) → m ≡ multipliers_of up down → m ≡ multipliers v p n
made_multipliers v p n m up down e f g = g ∙ ap (λ (z : ℕ). multipliers_of z down) e ∙ ap (multipliers_of (unsigned_abs (factor v p.terms))) f

pub if_ok_more : {T E : Type 0} {P Q : T → Type 0} (r : Result T E) → ((x : T) → P x → Q x) → IfOk r P → IfOk r Q
if_ok_more (Ok x) f h = f x h
if_ok_more (Err e) f h = h

pub combined : (limited : Bool) (v : ℕ) (p n q raised lowered : Row) (m : Multipliers) (o : Option Sum) → CanCombine limited v p n → q.terms ≡ [] → q.constant ≡ pos 0 → m ≡ multipliers v p n → IsSum limited q m.of_raising p raised → IsSum limited q m.of_lowering n lowered
    → MatchOption o (CanSum limited raised (pos 1) lowered → ⊥) (λ s. IsSum limited raised (pos 1) lowered (row s.terms.items s.constant))
    → MatchOption o ((limited && is_wide v p n) ≡ true) (λ s. ((limited && is_wide v p n) ≡ false) × (row s.terms.items s.constant ≡ combination v p n) × (content s.terms.items < 2 ^ 127))
combined limited v p n q raised lowered m None c qt qc em r l h =
    sum_wide limited v p n raised lowered c (multiples limited v p n q raised lowered m.of_raising m.of_lowering qt qc (ap (λ (z : Multipliers). z.of_raising) em) (ap (λ (z : Multipliers). z.of_lowering) em) r l) h
combined limited v p n q raised lowered m (Some s) c qt qc em r l h =
    let er = ap (λ (z : Multipliers). z.of_raising) em in
    let el = ap (λ (z : Multipliers). z.of_lowering) em in
    let u = multiples limited v p n q raised lowered m.of_raising m.of_lowering qt qc er el r l in (
      not_wide limited v p n q raised lowered (row s.terms.items s.constant) m.of_raising m.of_lowering qt qc er el r l h,
      is_combination limited v p n raised lowered (row s.terms.items s.constant) c u h,
      combined_small limited v p n raised lowered (row s.terms.items s.constant) c u h,
    )
