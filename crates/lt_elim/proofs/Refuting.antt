-- Where an elimination ends in a contradiction, lines refute the rows.
use Rattle.std.proofs.Common.{arith, ◌≡◌, refl, sym, ◌∙◌, ap, subst, ℕ, suc, zero, ℤ, pos, negsuc, ◌+ℤ◌, ◌-ℤ◌, ◌*ℤ◌, ◌≤ℤ◌, ◌<ℤ◌, ◌+◌, ◌-◌, ◌*◌, ◌/◌, ◌^◌, ◌<◌, ◌≤◌, List, [], ◌∷◌, ◌++◌, length, ◌⊎◌, inl, inr, Bool, true, false, ◌&&◌, ◌||◌, Option, Some, None}
use Rattle.std.specs.Prelude.{neg_ℤ, int_lt, nat_lt, if◌then◌else◌, map, unsigned_abs, slice_get}
use Rattle.std.specs.Int.{◌∣◌}
use Rattle.std.specs.Ordering.{int_eq}
use Rattle.std.proofs.lemmas.Int.{ints}
use Rattle.std.proofs.lemmas.Bool.{cases_order}
use Rattle.std.proofs.Math.IntN.{*ℤ_comm}
use borrow.Author.Differences.{up, down, same_in, product_is}
use Rattle.lt_model.proofs.Whole.{neg-mul_ℤ, abs_up, abs_down}
use Rattle.lt_lin.specs.declared.row.Row.{Row}
use Rattle.lt_lin.specs.Terms.{Term, IsOrdered, factor, scaled, Fits}
use Rattle.lt_lin.specs.Rows.{IsContradiction, HasContradiction}
use Rattle.lt_lin.specs.Lines.{Lines, last, combination as combine_line, division as division_line}
use Rattle.lt_lin.specs.Refutation.{SumsTo, IsCombination, IsQuotient, RefutesAfter, Refutes}
use Rattle.lt_lin.proofs.Whole.{floor_low, floor_high}
use Rattle.lt_lin.proofs.Factors.{AllBelow, factor_above}
use Rattle.lt_elim.specs.Divisor.{gcd_of, content, quotient, passes}
use Rattle.lt_elim.specs.Combination.{divided, normalised, terms_below, Multipliers, multipliers, sum_of, combination, passes_in, any_below, is_wide}
use Rattle.lt_elim.specs.Elimination.{coeff, many_rows, refuted, Kept, keeps, ends, and_next, is_constant, with_row, within_limit, row_limit, keep, keep_normalised, keep_all, keep_combination, combine_with, combine_all, without, raising, lowering, eliminated}
use Rattle.lt_elim.proofs.Divisors.{gcd_is, Divides, content_divides}
use Rattle.lt_elim.proofs.Ring.{exact_ℕ, exact_ℤ}
use Rattle.lt_elim.proofs.Keeping.{In, filter_in, constant_terms, joined_of}
use Rattle.lt_elim.proofs.Edges.{below_ordered, below_factor, above_factor, mark, marked, unmarked, marks, multipliers_one}
use Rattle.lt_elim.proofs.Walks.{IsSized}
use Rattle.lt_elim.proofs.Differences.{AreEdges, Raising, raising_is, Lowering, lowering_is}
use Rattle.lt_elim.proofs.Points.{InForm, next_form, first_form, elimination}
use Rattle.lt_elim.specs.Fraction.{Fraction}
use Rattle.lt_elim.specs.Decision.{Verdict, stops, point, value_of, with_value, and_value, unless_ended, decided, variables, verdict_within}

-- ---- known rows
-- the row is known
abbrev pub IsKnown : List Row → Row → Type 0
IsKnown known r = (i : ℕ) × (slice_get known i ≡ Some r)

-- Lines that refute what is known are the end of lines that refute the rows.
abbrev pub Leads : List Row → List Row → Type 0
Leads rows known = (lines : Lines) → RefutesAfter false known lines → (all : Lines) × Refutes rows all

pub known_more : (known : List Row) (r q : Row) (i : ℕ) → slice_get known i ≡ Some q → slice_get (known ++ r ∷ []) i ≡ Some q
known_more [] r q i e = absurd (cc)
known_more (k ∷ ks) r q zero e = e
known_more (k ∷ ks) r q (suc i) e = known_more ks r q i e

pub known_last : (known : List Row) (r : Row) → slice_get (known ++ r ∷ []) (length known) ≡ Some r
known_last [] r = refl
known_last (k ∷ ks) r = known_last ks r

pub known_contradiction : (known : List Row) (i : ℕ) (r : Row) → slice_get known i ≡ Some r → IsContradiction r → HasContradiction known
known_contradiction [] i r e c = absurd (cc)
known_contradiction (k ∷ ks) zero r e c = let is : k ≡ r = cc in inl (subst IsContradiction (sym is) c)
known_contradiction (k ∷ ks) (suc i) r e c = inr (known_contradiction ks i r e c)

-- ---- a normalised row is known
-- what is known, where a row is among it and the rows that were known still are
pub record Knows (rows known : List Row) (r : Row) : Type 0 where
  pub now : List Row
  pub leads : Leads rows now
  pub is_known : IsKnown now r
  pub still : (q : Row) → IsKnown known q → IsKnown now q

pub scaled_back : (k : ℕ) (ts : List Term) → 0 < k → Divides k ts → ts ≡ scaled (pos k) (map (λ t. (t.0, quotient t.1 k)) ts)
scaled_back k [] some h = refl
scaled_back k (t ∷ ts) some h = ap (λ (c : ℤ). (t.0, c) ∷ ts) (sym (exact_ℤ t.1 k some h.0)) ∙ ap (λ (x : List Term). (t.0, pos k *ℤ quotient t.1 k) ∷ x) (scaled_back k ts some h.1)

knows_division : (rows known : List Row) (k : ℕ) (r : Row) → Leads rows known → IsKnown known r → Divides k r.terms → Knows rows known (divided k r)
knows_division rows known zero r l i h = record { now = known; leads = l; is_known = i; still = λ q g. g }
knows_division rows known (suc k) r l i h = record {
  now = known ++ divided (suc k) r ∷ [];
  leads = λ lines f. l (division_line i.0 (pos (suc k)) lines) (divided (suc k) r, (r, i.1, is_quotient), f);
  is_known = (length known, known_last known (divided (suc k) r));
  still = λ q g. (g.0, known_more known (divided (suc k) r) q g.0 g.1);
}
  where
    is_quotient : IsQuotient r (pos (suc k)) (divided (suc k) r)
    is_quotient = record {
      positive = omega (arith, ints);
      terms = scaled_back (suc k) r.terms (omega arith) h;
      at_most = floor_low r.constant (pos (suc k)) (omega (arith, ints));
      above = floor_high r.constant (pos (suc k)) (omega (arith, ints));
    }

knows_normalised : (rows known : List Row) (r : Row) → Leads rows known → IsKnown known r → Knows rows known (normalised r)
knows_normalised rows known r l i = knows_division rows known (content r.terms) r l i (content_divides r.terms)

-- ---- what comes of rows that are kept
abbrev AllKnown : List Row → List Row → Type 0
AllKnown known rows = (r : Row) → In r rows → IsKnown known r

pub record Tracked (rows base kept : List Row) : Type 0 where
  pub known : List Row
  pub leads : Leads rows known
  pub all : AllKnown known kept
  pub given : AllKnown known base

-- Kept rows and those of the base are known; after a contradiction there are lines that refute the rows.
abbrev pub Traced : List Row → List Row → Kept → Type 0
Traced rows base (keeps kept) = Tracked rows base kept
Traced rows base (ends event) = event ≡ refuted → (lines : Lines) × Refutes rows lines

pub contradiction_is : (r : Row) → is_constant r ≡ true → int_lt r.constant (pos 0) ≡ true → IsContradiction r
contradiction_is r c l = (constant_terms r c, less r.constant l)
  where
    less : (z : ℤ) → int_lt z (pos 0) ≡ true → z <ℤ pos 0
    less z e = grind (arith, ints)

keep_traced : (rows base : List Row) (b : Bool) (v : ℕ) (kept : List Row) (r : Row) → (t : Tracked rows base kept) → IsKnown t.known r → Traced rows base (keep_normalised b v kept r)
keep_traced rows base b v kept r t i = by_tests (is_constant r) (int_lt r.constant (pos 0)) refl refl
  where
    joined : Tracked rows base (with_row kept r)
    joined = record { known = t.known; leads = t.leads; given = t.given; all = λ q h. elim ((joined_of kept r).from q h) [ inl x ↦ t.all q x | inr x ↦ subst (IsKnown t.known) (sym x) i ] }

    by_limit : (c : Bool) → Traced rows base (if c then ends (many_rows v) else keeps (with_row kept r))
    by_limit true = λ e. absurd (cc)
    by_limit false = joined

    by_tests : (c l : Bool) → is_constant r ≡ c → int_lt r.constant (pos 0) ≡ l → Traced rows base (if c && l then ends refuted else (if c then keeps kept else within_limit b v (with_row kept r)))
    by_tests true true e f = λ x. t.leads last (inr (known_contradiction t.known i.0 r i.1 (contradiction_is r e f)))
    by_tests true false e f = t
    by_tests false l e f = by_limit (b && nat_lt row_limit (length (with_row kept r)))

-- the row itself is known
keep_row_traced : (rows base : List Row) (b : Bool) (v : ℕ) (kept : List Row) (r : Row) → (t : Tracked rows base kept) → IsKnown t.known r → Traced rows base (keep b v kept r)
keep_row_traced rows base b v kept r t i =
    let k = knows_normalised rows t.known r t.leads i in
    keep_traced rows base b v kept (normalised r) (record { known = k.now; leads = k.leads; all = λ q h. k.still q (t.all q h); given = λ q h. k.still q (t.given q h) }) k.is_known

next_traced : (rows base : List Row) (k : Kept) (next : List Row → Kept) → Traced rows base k → ((kept : List Row) → Tracked rows base kept → Traced rows base (next kept)) → Traced rows base (and_next k next)
next_traced rows base (keeps kept) next t h = h kept t
next_traced rows base (ends event) next t h = t

-- rows of the system in turn
pub keep_all_traced : (rows base : List Row) (b : Bool) (v : ℕ) (kept offered : List Row) → ((r : Row) → In r offered → In r base) → Tracked rows base kept → Traced rows base (keep_all b v kept offered)
keep_all_traced rows base b v kept [] own t = t
keep_all_traced rows base b v kept (r ∷ rs) own t =
    next_traced rows base (keep b v kept r) (λ more. keep_all b v more rs) (keep_row_traced rows base b v kept r t (t.given r (own r (inl refl))))
    (λ more s. keep_all_traced rows base b v more rs (λ q h. own q (inr h)) s)

in_known : (rows : List Row) → AllKnown rows rows
in_known [] r h = absurd h
in_known (q ∷ qs) r (inl e) = (0, ap Some e)
in_known (q ∷ qs) r (inr h) = let i = in_known qs r h in (suc i.0, i.1)

pub first_tracked : (rows : List Row) → Tracked rows rows []
first_tracked rows = record { known = rows; leads = λ lines h. (lines, h); all = λ r h. absurd h; given = in_known rows }

-- ---- combinations fit
-- products and their sum, in one part of two rows, fit
pub record PartFits (m : Multipliers) (a b : ℤ) : Type 0 where
  pub raising : Fits (m.of_raising *ℤ a)
  pub lowering : Fits (m.of_lowering *ℤ b)
  pub sum : Fits (sum_of m a b)

pub record CombinationFits (v : ℕ) (p n : Row) : Type 0 where
  pub factors : (x : ℕ) → x ≤ v → PartFits (multipliers v p n) (factor x p.terms) (factor x n.terms)
  pub constants : PartFits (multipliers v p n) p.constant n.constant

fits_within : (z : ℤ) → passes z ≡ false → Fits z
fits_within (pos n) e = let l : n ≤ 2 ^ 120 = grind arith in (omega (arith, ints), omega (arith, ints))
fits_within (negsuc n) e = let l : suc n ≤ 2 ^ 120 = grind arith in (omega (arith, ints), omega (arith, ints))

pub either_false : (a b : Bool) → (a || b) ≡ false → (a ≡ false) × (b ≡ false)
either_false true b e = absurd (cc)
either_false false b e = (refl, e)

pub part_fits : (m : Multipliers) (a b : ℤ) → passes_in m a b ≡ false → PartFits m a b
part_fits m a b e =
    let outer = either_false (passes (m.of_raising *ℤ a) || passes (m.of_lowering *ℤ b)) (passes (sum_of m a b)) e in
    let inner = either_false (passes (m.of_raising *ℤ a)) (passes (m.of_lowering *ℤ b)) outer.0 in
    record { raising = fits_within (m.of_raising *ℤ a) inner.0; lowering = fits_within (m.of_lowering *ℤ b) inner.1; sum = fits_within (sum_of m a b) outer.1 }

pub none_below : (n : ℕ) (test : ℕ → Bool) → any_below n test ≡ false → (x : ℕ) → x < n → test x ≡ false
none_below zero test e x h = absurd (omega arith)
none_below (suc n) test e x h =
    let both = either_false (any_below n test) (test n) e in
    elim (cases_order x n) [
      | inl k ↦ ap test k ∙ both.1
      | inr k ↦ elim k [ inl l ↦ none_below n test both.0 x l | inr l ↦ absurd (omega arith) ]
    ]

pub narrow_fits : (v : ℕ) (p n : Row) → is_wide v p n ≡ false → CombinationFits v p n
unfolding is_wide
narrow_fits v p n e =
    let both = either_false (any_below (suc v) (λ x. passes_in (multipliers v p n) (factor x p.terms) (factor x n.terms))) (passes_in (multipliers v p n) p.constant n.constant) e in
    record {
      factors = λ x h. part_fits (multipliers v p n) (factor x p.terms) (factor x n.terms) (none_below (suc v) (λ x. passes_in (multipliers v p n) (factor x p.terms) (factor x n.terms)) both.0 x (omega arith));
      constants = part_fits (multipliers v p n) p.constant n.constant both.1;
    }

-- ---- combinations are known
zero_fits : Fits (pos 0)
zero_fits = (omega (arith, ints), omega (arith, ints))

pub sum_nothing : (m : Multipliers) (a b : ℤ) → a ≡ pos 0 → b ≡ pos 0 → sum_of m a b ≡ pos 0
sum_nothing m a b e f = both (m.of_raising *ℤ a) (m.of_lowering *ℤ b) (ap (λ z. m.of_raising *ℤ z) e ∙ times_nothing m.of_raising) (ap (λ z. m.of_lowering *ℤ z) f ∙ times_nothing m.of_lowering)
  where
    times_nothing : (z : ℤ) → z *ℤ pos 0 ≡ pos 0
    times_nothing z = omega (arith, ints)

    both : (x y : ℤ) → x ≡ pos 0 → y ≡ pos 0 → x +ℤ y ≡ pos 0
    both x y e f = omega (arith, ints)

pub nothing_fits : (m : Multipliers) (a b : ℤ) → a ≡ pos 0 → b ≡ pos 0 → PartFits m a b
nothing_fits m a b e f = record {
  raising = subst Fits (sym (ap (λ z. m.of_raising *ℤ z) e ∙ times_nothing m.of_raising)) zero_fits;
  lowering = subst Fits (sym (ap (λ z. m.of_lowering *ℤ z) f ∙ times_nothing m.of_lowering)) zero_fits;
  sum = subst Fits (sym (sum_nothing m a b e f)) zero_fits;
}
  where
    times_nothing : (z : ℤ) → z *ℤ pos 0 ≡ pos 0
    times_nothing z = omega (arith, ints)

pub sums_two : (part : Row → ℤ) (known : List Row) (p n : Row) (i j : ℕ) (m : Multipliers) (s : ℤ) → slice_get known i ≡ Some p → slice_get known j ≡ Some n → pos 0 ≤ℤ m.of_raising → pos 0 ≤ℤ m.of_lowering → PartFits m (part p) (part n) → sum_of m (part p) (part n) ≡ s → SumsTo part known (pos 0) ((i, m.of_raising) ∷ (j, m.of_lowering) ∷ []) s
sums_two part known p n i j m s gp gn pr pl f e = (
  p,
  gp,
  pr,
  f.raising,
  subst Fits (left (m.of_raising *ℤ part p)) f.raising,
  (
    n,
    gn,
    pl,
    f.lowering,
    subst (λ (z : ℤ). Fits (z +ℤ m.of_lowering *ℤ part n)) (left (m.of_raising *ℤ part p)) f.sum,
    ap (λ z. z +ℤ m.of_lowering *ℤ part n) (sym (left (m.of_raising *ℤ part p))) ∙ e,
  ),
)
  where
    left : (z : ℤ) → z ≡ pos 0 +ℤ z
    left z = omega (arith, ints)

-- the sum of the products of the factors of v is 0
pub sum_at_own : (v : ℕ) (p n : Row) → int_lt (pos 0) (factor v p.terms) ≡ true → int_lt (factor v n.terms) (pos 0) ≡ true → sum_of (multipliers v p n) (factor v p.terms) (factor v n.terms) ≡ pos 0
sum_at_own v p n hp hn =
    cancel (pos (b_size / g) *ℤ a) (pos (a_size / g) *ℤ b) (pos (b_size / g) *ℤ pos (a_size / g) *ℤ pos g)
    (ap (λ z. pos (b_size / g) *ℤ z) (sym (abs_up a (more a hp)) ∙ ap pos (sym (exact_ℕ a_size g gs.0))) ∙ first (pos (b_size / g)) (pos (a_size / g)) (pos g))
    (ap (λ z. pos (a_size / g) *ℤ z) (twice b (pos b_size) (abs_down b (less b hn)) ∙ ap (λ (k : ℕ). neg_ℤ (pos k)) (sym (exact_ℕ b_size g gs.1))) ∙ times_neg (pos (a_size / g)) (pos (b_size / g) *ℤ pos g) ∙ ap neg_ℤ (second (pos (a_size / g)) (pos (b_size / g)) (pos g)))
  where
    a : ℤ
    a = factor v p.terms

    b : ℤ
    b = factor v n.terms

    a_size : ℕ
    a_size = unsigned_abs a

    b_size : ℕ
    b_size = unsigned_abs b

    g : ℕ
    g = gcd_of a_size b_size

    gs : (g ∣ a_size) × (g ∣ b_size) × ((k : ℕ) → k ∣ a_size → k ∣ b_size → k ∣ g)
    gs = gcd_is a_size b_size

    more : (z : ℤ) → int_lt (pos 0) z ≡ true → pos 0 ≤ℤ z
    more z e = grind (arith, ints)

    less : (z : ℤ) → int_lt z (pos 0) ≡ true → z ≤ℤ pos 0
    less z e = grind (arith, ints)

    twice : (x y : ℤ) → y ≡ neg_ℤ x → x ≡ neg_ℤ y
    twice x y e = omega (arith, ints)

    up_product : (a b : ℤ) → up (a *ℤ b) ≡ up a * up b + down a * down b
    up_product a b = (product_is a b).0

    down_product : (a b : ℤ) → down (a *ℤ b) ≡ up a * down b + down a * up b
    down_product a b = (product_is a b).1

    first : (x y z : ℤ) → x *ℤ (y *ℤ z) ≡ x *ℤ y *ℤ z
    first x y z = same_in (x *ℤ (y *ℤ z)) (x *ℤ y *ℤ z) (simp (up_product, down_product) (omega arith))

    second : (x y z : ℤ) → x *ℤ (y *ℤ z) ≡ y *ℤ x *ℤ z
    second x y z = same_in (x *ℤ (y *ℤ z)) (y *ℤ x *ℤ z) (simp (up_product, down_product) (omega arith))

    times_neg : (x y : ℤ) → x *ℤ neg_ℤ y ≡ neg_ℤ (x *ℤ y)
    times_neg x y = *ℤ_comm x (neg_ℤ y) ∙ neg-mul_ℤ y x ∙ ap neg_ℤ (*ℤ_comm y x)

    cancel : (x y z : ℤ) → x ≡ z → y ≡ neg_ℤ z → x +ℤ y ≡ pos 0
    cancel x y z e f = omega (arith, ints)

combination_is : (known : List Row) (v : ℕ) (p n : Row) (i j : ℕ) → slice_get known i ≡ Some p → slice_get known j ≡ Some n → int_lt (pos 0) (factor v p.terms) ≡ true → int_lt (factor v n.terms) (pos 0) ≡ true → AllBelow (suc v) p.terms → AllBelow (suc v) n.terms → CombinationFits v p n → IsCombination known ((i, (multipliers v p n).of_raising) ∷ (j, (multipliers v p n).of_lowering) ∷ []) (combination v p n)
unfolding combination
combination_is known v p n i j gp gn hp hn bp bn f = record {
  ordered = below_ordered v (λ x. sum_of (multipliers v p n) (factor x p.terms) (factor x n.terms));
  factors = λ x. by_place x (cases_order x v);
  constant = sums_two (λ q. q.constant) known p n i j (multipliers v p n) (sum_of (multipliers v p n) p.constant n.constant) gp gn (omega (arith, ints)) (omega (arith, ints)) f.constants refl;
}
  where
    terms : List Term
    terms = terms_below v (λ x. sum_of (multipliers v p n) (factor x p.terms) (factor x n.terms))

    sums : (x : ℕ) → PartFits (multipliers v p n) (factor x p.terms) (factor x n.terms) → sum_of (multipliers v p n) (factor x p.terms) (factor x n.terms) ≡ factor x terms → SumsTo (λ q. factor x q.terms) known (pos 0) ((i, (multipliers v p n).of_raising) ∷ (j, (multipliers v p n).of_lowering) ∷ []) (factor x terms)
    sums x h e = sums_two (λ q. factor x q.terms) known p n i j (multipliers v p n) (factor x terms) gp gn (omega (arith, ints)) (omega (arith, ints)) h e

    by_place : (x : ℕ) → (x ≡ v) ⊎ ((x < v) ⊎ (v < x)) → SumsTo (λ q. factor x q.terms) known (pos 0) ((i, (multipliers v p n).of_raising) ∷ (j, (multipliers v p n).of_lowering) ∷ []) (factor x terms)
    by_place x (inl e) = sums x (f.factors x (omega arith)) (ap (λ (y : ℕ). sum_of (multipliers v p n) (factor y p.terms) (factor y n.terms)) e ∙ sum_at_own v p n hp hn ∙ sym (above_factor v (λ x. sum_of (multipliers v p n) (factor x p.terms) (factor x n.terms)) x (omega arith)))
    by_place x (inr (inl l)) = sums x (f.factors x (omega arith)) (sym (below_factor v (λ x. sum_of (multipliers v p n) (factor x p.terms) (factor x n.terms)) x l))
    by_place x (inr (inr l)) =
        let zp : factor x p.terms ≡ pos 0 = factor_above x (suc v) p.terms bp (omega arith) in
        let zn : factor x n.terms ≡ pos 0 = factor_above x (suc v) n.terms bn (omega arith) in
        sums x (nothing_fits (multipliers v p n) (factor x p.terms) (factor x n.terms) zp zn) (sum_nothing (multipliers v p n) (factor x p.terms) (factor x n.terms) zp zn ∙ sym (above_factor v (λ x. sum_of (multipliers v p n) (factor x p.terms) (factor x n.terms)) x (omega arith)))

-- ---- combinations in turn
-- a row of the base that raises the variable, and one that lowers it
record Pairing (base : List Row) (b : Bool) (v : ℕ) (p n : Row) : Type 0 where
  p_in : In p base
  n_in : In n base
  p_raises : int_lt (pos 0) (factor v p.terms) ≡ true
  n_lowers : int_lt (factor v n.terms) (pos 0) ≡ true
  p_below : AllBelow (suc v) p.terms
  n_below : AllBelow (suc v) n.terms
  fits : b ≡ false → CombinationFits v p n

combination_traced : (rows base : List Row) (b : Bool) (v : ℕ) (kept : List Row) (p n : Row) → Pairing base b v p n → Tracked rows base kept → Traced rows base (keep_combination b v p kept n)
combination_traced rows base b v kept p n h t = by_tests b (is_wide v p n) refl refl
  where
    known : CombinationFits v p n → Traced rows base (keep b v kept (combination v p n))
    known f =
        let i = t.given p h.p_in in
        let j = t.given n h.n_in in
        let is = combination_is t.known v p n i.0 j.0 i.1 j.1 h.p_raises h.n_lowers h.p_below h.n_below f in
        keep_row_traced rows base b v kept (combination v p n) (record {
          known = t.known ++ combination v p n ∷ [];
          leads = λ lines g. t.leads (combine_line ((i.0, (multipliers v p n).of_raising) ∷ (j.0, (multipliers v p n).of_lowering) ∷ []) lines) (combination v p n, is, g);
          all = λ q g. let k = t.all q g in (k.0, known_more t.known (combination v p n) q k.0 k.1);
          given = λ q g. let k = t.given q g in (k.0, known_more t.known (combination v p n) q k.0 k.1);
        }) (length t.known, known_last t.known (combination v p n))

    by_tests : (c w : Bool) → b ≡ c → is_wide v p n ≡ w → Traced rows base (if c && w then ends (coeff v) else keep b v kept (combination v p n))
    by_tests true true e f = λ x. absurd (cc)
    by_tests true false e f = known (narrow_fits v p n f)
    by_tests false w e f = known (h.fits e)

combined_with_traced : (rows base : List Row) (b : Bool) (v : ℕ) (p : Row) (kept ns : List Row) → ((n : Row) → In n ns → Pairing base b v p n) → Tracked rows base kept → Traced rows base (combine_with b v p kept ns)
combined_with_traced rows base b v p kept [] h t = t
combined_with_traced rows base b v p kept (n ∷ ns) h t =
    next_traced rows base (keep_combination b v p kept n) (λ more. combine_with b v p more ns) (combination_traced rows base b v kept p n (h n (inl refl)) t)
    (λ more s. combined_with_traced rows base b v p more ns (λ q k. h q (inr k)) s)

combined_all_traced : (rows base : List Row) (b : Bool) (v : ℕ) (kept ps ns : List Row) → ((p n : Row) → In p ps → In n ns → Pairing base b v p n) → Tracked rows base kept → Traced rows base (combine_all b v kept ps ns)
combined_all_traced rows base b v kept [] ns h t = t
combined_all_traced rows base b v kept (p ∷ ps) ns h t =
    next_traced rows base (combine_with b v p kept ns) (λ more. combine_all b v more ps ns) (combined_with_traced rows base b v p kept ns (λ n k. h p n (inl refl) k) t)
    (λ more s. combined_all_traced rows base b v more ps ns (λ q n k l. h q n (inr k) l) s)

-- a variable
pub eliminated_traced : (rows base : List Row) (b : Bool) (v : ℕ) → ((r : Row) → In r base → AllBelow (suc v) r.terms) → (b ≡ false → (p n : Row) → In p (raising v base) → In n (lowering v base) → CombinationFits v p n) → Tracked rows base base → Traced rows base (eliminated b v base)
unfolding eliminated
eliminated_traced rows base b v below fits t =
    combined_all_traced rows base b v (without v base) (raising v base) (lowering v base) pairing (record { known = t.known; leads = t.leads; given = t.given; all = λ q h. t.all q (filter_in (λ r. int_eq (factor v r.terms) (pos 0)) q base h).0 })
  where
    pairing : (p n : Row) → In p (raising v base) → In n (lowering v base) → Pairing base b v p n
    pairing p n hp hn =
        let fp = filter_in (λ r. int_lt (pos 0) (factor v r.terms)) p base hp in
        let fn = filter_in (λ r. int_lt (factor v r.terms) (pos 0)) n base hn in
        record { p_in = fp.0; n_in = fn.0; p_raises = fp.1; n_lowers = fn.1; p_below = below p fp.0; n_below = below n fn.0; fits = λ e. fits e p n hp hn }

-- ---- verdicts
-- What is kept is known, in form, and where there is no limit its combinations fit.
pub record Follows (rows : List Row) (b : Bool) (Inv : ℕ → List Row → Type 0) : Type 0 where
  pub fits : (v : ℕ) (kept : List Row) → Inv (suc v) kept → b ≡ false → (p n : Row) → In p (raising v kept) → In n (lowering v kept) → CombinationFits v p n
  pub next : (v : ℕ) (kept more : List Row) → Inv (suc v) kept → eliminated b v kept ≡ keeps more → Inv v more

pub decided_traced : (rows : List Row) (b : Bool) (Inv : ℕ → List Row → Type 0) → Follows rows b Inv → (n : ℕ) (kept : List Row) → Tracked rows kept kept → InForm n kept → Inv n kept → decided b n kept ≡ stops refuted → (lines : Lines) × Refutes rows lines
decided_traced rows b Inv f zero kept t form inv e = absurd (cc)
decided_traced rows b Inv f (suc v) kept t form inv e = by_kept (eliminated b v kept) refl (eliminated_traced rows kept b v (λ r h. (form r h).1) (f.fits v kept inv) t) e (λ more s g i. decided_traced rows b Inv f v more s g i)
  where
    by_verdict : (w : Verdict) → and_value b v kept w ≡ stops refuted → (w ≡ stops refuted → (lines : Lines) × Refutes rows lines) → (lines : Lines) × Refutes rows lines
    by_verdict (stops event) e rest = rest e
    by_verdict (point values) e rest = by_value (value_of b v values kept) e
      where
        by_value : (o : Option Fraction) → with_value v values o ≡ stops refuted → (lines : Lines) × Refutes rows lines
        by_value None e = absurd (let c : coeff v ≡ refuted = cc in cc)
        by_value (Some x) e = absurd (cc)

    by_kept : (k : Kept) → eliminated b v kept ≡ k → Traced rows kept k → unless_ended k (λ more. and_value b v kept (decided b v more)) ≡ stops refuted → ((more : List Row) → Tracked rows more more → InForm v more → Inv v more → decided b v more ≡ stops refuted → (lines : Lines) × Refutes rows lines) → (lines : Lines) × Refutes rows lines
    by_kept (keeps more) k s e rest = by_verdict (decided b v more) e (rest more (record { known = s.known; leads = s.leads; all = s.all; given = s.all }) (next_form v kept more form (elimination b v kept more k)) (f.next v kept more inv k))
    by_kept (ends event) k s e rest = s (let c : event ≡ refuted = cc in c)

pub verdict_traced : (rows : List Row) (b : Bool) (Inv : ℕ → List Row → Type 0) → Follows rows b Inv → ((r : Row) → In r rows → IsOrdered r.terms) → ((kept : List Row) → keep_all b (variables rows - 1) [] rows ≡ keeps kept → Inv (variables rows) kept) → verdict_within b rows ≡ stops refuted → (lines : Lines) × Refutes rows lines
verdict_traced rows b Inv f ordered inv e = by_kept (keep_all b (variables rows - 1) [] rows) refl (keep_all_traced rows rows b (variables rows - 1) [] rows (λ r h. h) (first_tracked rows)) e
  where
    by_kept : (k : Kept) → keep_all b (variables rows - 1) [] rows ≡ k → Traced rows rows k → unless_ended k (λ kept. decided b (variables rows) kept) ≡ stops refuted → (lines : Lines) × Refutes rows lines
    by_kept (ends event) k s e = s (let c : event ≡ refuted = cc in c)
    by_kept (keeps kept) k s e = decided_traced rows b Inv f (variables rows) kept (record { known = s.known; leads = s.leads; all = s.all; given = s.all }) (first_form b (variables rows - 1) rows kept ordered k) (inv kept k) e

-- ---- where there is no limit
sized_fits : (z : ℤ) → IsSized (2 ^ 125) z → Fits z
sized_fits z h = (let l : neg_ℤ (pos (2 ^ 125)) ≤ℤ z = h.low in omega (arith, ints), let l : z ≤ℤ pos (2 ^ 125) = h.high in omega (arith, ints))

ones_fit : (m : Multipliers) (a b : ℤ) → m ≡ record { of_raising = pos 1; of_lowering = pos 1 } → IsSized (2 ^ 125) a → IsSized (2 ^ 125) b → PartFits m a b
ones_fit m a b e ha hb = subst (λ (k : Multipliers). PartFits k a b) (sym e) (record {
  raising = subst Fits (once a) (sized_fits a ha);
  lowering = subst Fits (once b) (sized_fits b hb);
  sum = sum a b (pos 1 *ℤ a) (pos 1 *ℤ b) (once a) (once b) ha hb;
})
  where
    once : (z : ℤ) → z ≡ pos 1 *ℤ z
    once z = omega (arith, ints)

    sum : (a b x y : ℤ) → a ≡ x → b ≡ y → IsSized (2 ^ 125) a → IsSized (2 ^ 125) b → Fits (x +ℤ y)
    sum a b x y e f ha hb =
        let al : neg_ℤ (pos (2 ^ 125)) ≤ℤ a = ha.low in
        let ah : a ≤ℤ pos (2 ^ 125) = ha.high in
        let bl : neg_ℤ (pos (2 ^ 125)) ≤ℤ b = hb.low in
        let bh : b ≤ℤ pos (2 ^ 125) = hb.high in
        (omega (arith, ints), omega (arith, ints))

mark_sized : (x i j : ℕ) → IsSized (2 ^ 125) (mark x i -ℤ mark x j)
mark_sized x i j = elim (marks x i) [
  | marked p q ↦ elim (marks x j) [ marked r s ↦ both (mark x i) (mark x j) (inl q) (inl s) | unmarked r s ↦ both (mark x i) (mark x j) (inl q) (inr s) ]
  | unmarked p q ↦ elim (marks x j) [ marked r s ↦ both (mark x i) (mark x j) (inr q) (inl s) | unmarked r s ↦ both (mark x i) (mark x j) (inr q) (inr s) ]
]
  where
    both : (a b : ℤ) → ((a ≡ pos 1) ⊎ (a ≡ pos 0)) → ((b ≡ pos 1) ⊎ (b ≡ pos 0)) → IsSized (2 ^ 125) (a -ℤ b)
    both a b (inl e) (inl f) = record { low = omega (arith, ints); high = omega (arith, ints) }
    both a b (inl e) (inr f) = record { low = omega (arith, ints); high = omega (arith, ints) }
    both a b (inr e) (inl f) = record { low = omega (arith, ints); high = omega (arith, ints) }
    both a b (inr e) (inr f) = record { low = omega (arith, ints); high = omega (arith, ints) }

-- Edges over a vertex, of small constants, fit together.
pub edges_fit : (v : ℕ) (kept : List Row) → AreEdges (suc v) kept → ((r : Row) → In r kept → IsSized (2 ^ 125) r.constant) → (p n : Row) → In p (raising v kept) → In n (lowering v kept) → CombinationFits v p n
edges_fit v kept edges small p n hp hn = record {
  factors = λ x h. ones_fit (multipliers v p n) (factor x p.terms) (factor x n.terms) ones (subst (IsSized (2 ^ 125)) (sym (r.like.factors x)) (mark_sized x (suc v) r.end)) (subst (IsSized (2 ^ 125)) (sym (l.like.factors x)) (mark_sized x l.start (suc v)));
  constants = ones_fit (multipliers v p n) p.constant n.constant ones (small p r.is_in) (small n l.is_in);
}
  where
    r : Raising v kept p
    r = raising_is v kept edges p hp

    l : Lowering v kept n
    l = lowering_is v kept edges n hn

    ones : multipliers v p n ≡ record { of_raising = pos 1; of_lowering = pos 1 }
    ones = multipliers_one v p n r.factor_is l.factor_is
