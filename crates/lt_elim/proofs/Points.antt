-- A point satisfies every row.
use Rattle.std.proofs.Common.{arith, ◌≡◌, refl, sym, ◌∙◌, ap, subst, ℕ, suc, zero, ℤ, pos, negsuc, ◌+ℤ◌, ◌-ℤ◌, ◌*ℤ◌, ◌≤ℤ◌, ◌<ℤ◌, ◌+◌, ◌-◌, ◌*◌, ◌/◌, ◌<◌, ◌≤◌, ◌≢◌, List, [], ◌∷◌, ◌++◌, length, ◌⊎◌, inl, inr, Bool, true, false, not, Option, Some, None, length-append, mul_comm}
use Rattle.std.specs.Prelude.{neg_ℤ, int_lt, int_le, ◌==◌, if◌then◌else◌, map, unsigned_abs, slice_index_or}
use Rattle.std.specs.Ordering.{int_eq}
use Rattle.std.specs.Int.{◌∣◌}
use Rattle.std.proofs.lemmas.Int.{ints}
use Rattle.std.proofs.lemmas.Bool.{cases_lt}
use Rattle.std.proofs.lemmas.Bool.Decides.{eqb_tells, Decides-int_eq}
use Rattle.std.proofs.lemmas.List.{get_or_past, get_or_append_left, get_or_push}
use Rattle.std.proofs.Math.IntN.{*ℤ_comm, zero-*ℤ}
use borrow.Author.Differences.{up, down, same_in, product_is}
use Rattle.lt_model.proofs.Whole.{mul_assoc_ℤ, mul-add_ℤ, add-mul_ℤ, neg-mul_ℤ, mul-≤ℤ, abs_up, abs_down}
use Rattle.lt_lin.specs.declared.row.Row.{Row}
use Rattle.lt_lin.specs.Terms.{Term, IsOrdered, IsOrderedFrom, factor, sum_at}
use Rattle.lt_lin.proofs.Whole.{floor_low}
use Rattle.lt_lin.proofs.Factors.{AllBelow, AllBelow-mono, factor_head, factor_other}
use Rattle.lt_lin.proofs.Soundness.{upto, upto_plus, upto_scale, sum_by_variable}
use Rattle.lt_elim.specs.Divisor.{gcd_of, content, quotient}
use Rattle.lt_elim.specs.Combination.{divided, normalised, with_term, terms_below, Multipliers, multipliers, sum_of, combination}
use Rattle.lt_elim.specs.Elimination.{Kept, keeps, ends, is_constant, keep_all, without, raising, lowering, eliminated}
use Rattle.lt_elim.specs.Fraction.{Fraction, whole, is_at_most, greater, lesser}
use Rattle.lt_elim.specs.Difference.{are_differences}
use Rattle.lt_elim.specs.Decision.{Verdict, stops, point, bound, best_after, best_of, least_allowed, value_of, with_value, and_value, unless_ended, decided, variables, variables_in, verdict}
use Rattle.lt_elim.proofs.Divisors.{gcd_is, divisor_positive, Divides, content_divides}
use Rattle.lt_elim.proofs.Ring.{product_not_negative, not_negative_from, exact_ℕ, exact_ℤ}
use Rattle.lt_elim.proofs.Values.{IsWorth, IsNegatedOver, AreWorth, total, bound_worth, if_some_is}
use Rattle.lt_elim.proofs.Keeping.{In, in_filter, filter_in, constant_terms, terms_constant, Has, Offered, offered_of, combinations, combined_all, in_combinations, combinations_in}
use Rattle.lt_elim.proofs.Edges.{below_all, below_ordered}

up_product : (a b : ℤ) → up (a *ℤ b) ≡ up a * up b + down a * down b
up_product a b = (product_is a b).0

down_product : (a b : ℤ) → down (a *ℤ b) ≡ up a * down b + down a * up b
down_product a b = (product_is a b).1

-- ---- a normalised row says no less
divides_sum : (num : ℕ → ℤ) (k : ℕ) (ts : List Term) → 0 < k → Divides k ts → pos k *ℤ sum_at num (map (λ t. (t.0, quotient t.1 k)) ts) ≡ sum_at num ts
divides_sum num k [] some h = nothing (pos k)
  where
    nothing : (z : ℤ) → z *ℤ pos 0 ≡ pos 0
    nothing z = omega (arith, ints)
divides_sum num k (t ∷ ts) some h =
    mul-add_ℤ (pos k) (quotient t.1 k *ℤ num t.0) (sum_at num (map (λ t. (t.0, quotient t.1 k)) ts))
    ∙ ap (λ z. z +ℤ pos k *ℤ sum_at num (map (λ t. (t.0, quotient t.1 k)) ts)) (sym (mul_assoc_ℤ (pos k) (quotient t.1 k) (num t.0)) ∙ ap (λ z. z *ℤ num t.0) (exact_ℤ t.1 k some h.0))
    ∙ ap (λ z. t.1 *ℤ num t.0 +ℤ z) (divides_sum num k ts some h.1)

divided_holds : (num : ℕ → ℤ) (d : ℤ) (k : ℕ) (r : Row) → pos 0 <ℤ d → Divides k r.terms → pos 0 ≤ℤ total num d (divided k r) → pos 0 ≤ℤ total num d r
divided_holds num d zero r pd h t = t
divided_holds num d (suc k) r pd h t =
    let q : ℤ = quotient r.constant (suc k) in
    let s : ℤ = sum_at num (map (λ t. (t.0, quotient t.1 (suc k))) r.terms) in
    let scaled : pos 0 ≤ℤ (pos (suc k) *ℤ (s +ℤ q *ℤ d)) = product_not_negative (pos (suc k)) (s +ℤ q *ℤ d) (omega (arith, ints)) t in
    let low : (pos (suc k) *ℤ q) ≤ℤ r.constant = floor_low r.constant (pos (suc k)) (omega (arith, ints)) in
    let times : (d *ℤ (pos (suc k) *ℤ q)) ≤ℤ (d *ℤ r.constant) = mul-≤ℤ (pos (suc k) *ℤ q) r.constant d (omega (arith, ints)) low in
    raised (pos (suc k) *ℤ (s +ℤ q *ℤ d)) (pos (suc k) *ℤ s) (sum_at num r.terms) (pos (suc k) *ℤ (q *ℤ d)) (d *ℤ (pos (suc k) *ℤ q)) (d *ℤ r.constant) (r.constant *ℤ d)
    scaled (mul-add_ℤ (pos (suc k)) s (q *ℤ d)) (divides_sum num (suc k) r.terms (omega arith) h) (regroup (pos (suc k)) q d) times (*ℤ_comm d r.constant)
  where
    regroup : (x y z : ℤ) → x *ℤ (y *ℤ z) ≡ z *ℤ (x *ℤ y)
    regroup x y z = same_in (x *ℤ (y *ℤ z)) (z *ℤ (x *ℤ y)) (simp (up_product, down_product) (omega arith))

    raised : (a b c e f g h : ℤ) → pos 0 ≤ℤ a → a ≡ b +ℤ e → b ≡ c → e ≡ f → f ≤ℤ g → g ≡ h → pos 0 ≤ℤ (c +ℤ h)
    raised a b c e f g h p q r s t u = omega (arith, ints)

pub normalised_holds : (num : ℕ → ℤ) (d : ℤ) (r : Row) → pos 0 <ℤ d → pos 0 ≤ℤ total num d (normalised r) → pos 0 ≤ℤ total num d r
normalised_holds num d r pd t = divided_holds num d (content r.terms) r pd (content_divides r.terms) t

-- a row that is at least as tight, or no row
abbrev pub AllHold : (ℕ → ℤ) → ℤ → List Row → Type 0
AllHold num d rows = (r : Row) → In r rows → pos 0 ≤ℤ total num d r

has_holds : (num : ℕ → ℤ) (d : ℤ) (rows : List Row) (r : Row) → pos 0 <ℤ d → AllHold num d rows → Has rows r.terms r.constant → pos 0 ≤ℤ total num d r
has_holds num d rows r pd all h =
    let t : pos 0 ≤ℤ total num d h.row = all h.row h.is_in in
    let times : (d *ℤ h.row.constant) ≤ℤ (d *ℤ r.constant) = mul-≤ℤ h.row.constant r.constant d (omega (arith, ints)) h.constant in
    raised (sum_at num h.row.terms) (sum_at num r.terms) (h.row.constant *ℤ d) (d *ℤ h.row.constant) (d *ℤ r.constant) (r.constant *ℤ d) t (ap (sum_at num) h.terms) (*ℤ_comm h.row.constant d) times (*ℤ_comm d r.constant)
  where
    raised : (a b e f g h : ℤ) → pos 0 ≤ℤ (a +ℤ e) → a ≡ b → e ≡ f → f ≤ℤ g → g ≡ h → pos 0 ≤ℤ (b +ℤ h)
    raised a b e f g h p q r s t = omega (arith, ints)

constant_holds : (num : ℕ → ℤ) (d : ℤ) (r : Row) → pos 0 <ℤ d → is_constant r ≡ true → pos 0 ≤ℤ r.constant → pos 0 ≤ℤ total num d r
constant_holds num d r pd c p =
    let times : pos 0 ≤ℤ (r.constant *ℤ d) = product_not_negative r.constant d p (omega (arith, ints)) in
    left (sum_at num r.terms) (r.constant *ℤ d) (ap (sum_at num) (constant_terms r c)) times
  where
    left : (a b : ℤ) → a ≡ pos 0 → pos 0 ≤ℤ b → pos 0 ≤ℤ (a +ℤ b)
    left a b e h = omega (arith, ints)

offered_holds : (num : ℕ → ℤ) (d : ℤ) (next : List Row) (r : Row) → pos 0 <ℤ d → AllHold num d next → ((is_constant (normalised r) ≡ true) × (pos 0 ≤ℤ (normalised r).constant)) ⊎ Has next (normalised r).terms (normalised r).constant → pos 0 ≤ℤ total num d r
offered_holds num d next r pd all (inl h) = normalised_holds num d r pd (constant_holds num d (normalised r) pd h.0 h.1)
offered_holds num d next r pd all (inr h) = normalised_holds num d r pd (has_holds num d next (normalised r) pd all h)

-- ---- what a combination comes to
sum_below : (num : ℕ → ℤ) (n : ℕ) (f : ℕ → ℤ) → sum_at num (terms_below n f) ≡ upto num n f
sum_below num zero f = refl
sum_below num (suc n) f = sum_term (terms_below n f) (f n) ∙ ap (λ z. f n *ℤ num n +ℤ z) (sum_below num n f)
  where
    sum-append : (a : List Term) (c : ℤ) → sum_at num (a ++ (n, c) ∷ []) ≡ c *ℤ num n +ℤ sum_at num a
    sum-append [] c = refl
    sum-append (t ∷ a) c = turned (t.1 *ℤ num t.0) (sum_at num (a ++ (n, c) ∷ [])) (c *ℤ num n) (sum_at num a) (sum-append a c)
      where
        turned : (x y z w : ℤ) → y ≡ z +ℤ w → x +ℤ y ≡ z +ℤ (x +ℤ w)
        turned x y z w e = omega (arith, ints)

    none : (a b : ℤ) → a ≡ pos 0 → b ≡ a +ℤ b
    none a b e = omega (arith, ints)

    sum_term : (ts : List Term) (c : ℤ) → sum_at num (with_term ts n c) ≡ c *ℤ num n +ℤ sum_at num ts
    sum_term ts c = by_test (int_eq c (pos 0)) refl
      where
        by_test : (b : Bool) → int_eq c (pos 0) ≡ b → sum_at num (if b then ts else ts ++ (n, c) ∷ []) ≡ c *ℤ num n +ℤ sum_at num ts
        by_test true e = none (c *ℤ num n) (sum_at num ts) (ap (λ z. z *ℤ num n) ((Decides-int_eq c (pos 0)).0 e) ∙ zero-*ℤ (num n))
        by_test false e = sum-append ts c

sum_without : (num : ℕ → ℤ) (v : ℕ) (ts : List Term) → AllBelow (suc v) ts → num v ≡ pos 0 → upto num v (λ x. factor x ts) ≡ sum_at num ts
sum_without num v ts b z = sym (sum_by_variable num (suc v) ts b ∙ left (factor v ts *ℤ num v) (upto num v (λ x. factor x ts)) (ap (λ k. factor v ts *ℤ k) z ∙ nothing (factor v ts)))
  where
    nothing : (k : ℤ) → k *ℤ pos 0 ≡ pos 0
    nothing k = omega (arith, ints)

    left : (a b : ℤ) → a ≡ pos 0 → a +ℤ b ≡ b
    left a b e = omega (arith, ints)

combination_total : (num : ℕ → ℤ) (d : ℤ) (v : ℕ) (p n : Row) → AllBelow (suc v) p.terms → AllBelow (suc v) n.terms → num v ≡ pos 0 → total num d (combination v p n) ≡ (multipliers v p n).of_raising *ℤ total num d p +ℤ (multipliers v p n).of_lowering *ℤ total num d n
unfolding combination
combination_total num d v p n bp bn z = by_multipliers (multipliers v p n)
  where
    regroup : (a b s t c e : ℤ) (w x y u : ℤ) → w ≡ a +ℤ b → x ≡ c +ℤ e → a +ℤ c ≡ y → b +ℤ e ≡ u → w +ℤ x ≡ y +ℤ u
    regroup a b s t c e w x y u f g h k = omega (arith, ints)

    by_multipliers : (m : Multipliers) → sum_at num (terms_below v (λ x. sum_of m (factor x p.terms) (factor x n.terms))) +ℤ sum_of m p.constant n.constant *ℤ d ≡ m.of_raising *ℤ total num d p +ℤ m.of_lowering *ℤ total num d n
    by_multipliers m =
        regroup (m.of_raising *ℤ sum_at num p.terms) (m.of_lowering *ℤ sum_at num n.terms) (pos 0) (pos 0) (m.of_raising *ℤ (p.constant *ℤ d)) (m.of_lowering *ℤ (n.constant *ℤ d))
        (sum_at num (terms_below v (λ x. sum_of m (factor x p.terms) (factor x n.terms)))) (sum_of m p.constant n.constant *ℤ d) (m.of_raising *ℤ total num d p) (m.of_lowering *ℤ total num d n)
        (sum_below num v (λ x. sum_of m (factor x p.terms) (factor x n.terms))
        ∙ upto_plus num v (λ x. m.of_raising *ℤ factor x p.terms) (λ x. m.of_lowering *ℤ factor x n.terms)
        ∙ ap (λ k. k +ℤ upto num v (λ x. m.of_lowering *ℤ factor x n.terms)) (upto_scale num v m.of_raising (λ x. factor x p.terms) ∙ ap (λ k. m.of_raising *ℤ k) (sum_without num v p.terms bp z))
        ∙ ap (λ k. m.of_raising *ℤ sum_at num p.terms +ℤ k) (upto_scale num v m.of_lowering (λ x. factor x n.terms) ∙ ap (λ k. m.of_lowering *ℤ k) (sum_without num v n.terms bn z)))
        (add-mul_ℤ (m.of_raising *ℤ p.constant) (m.of_lowering *ℤ n.constant) d ∙ ap (λ k. k +ℤ m.of_lowering *ℤ n.constant *ℤ d) (mul_assoc_ℤ m.of_raising p.constant d) ∙ ap (λ k. m.of_raising *ℤ (p.constant *ℤ d) +ℤ k) (mul_assoc_ℤ m.of_lowering n.constant d))
        (sym (mul-add_ℤ m.of_raising (sum_at num p.terms) (p.constant *ℤ d)))
        (sym (mul-add_ℤ m.of_lowering (sum_at num n.terms) (n.constant *ℤ d)))

-- ---- bounds
-- Over q times the denominator, with p for v, a row comes to at least 0: t is what its other terms come to, w the factor of v
-- times the denominator.
abbrev HoldsAt : Fraction → ℤ → ℤ → Type 0
HoldsAt f t w = pos 0 ≤ℤ (pos f.under *ℤ t +ℤ f.over *ℤ w)

carried : (e f : Fraction) (t w : ℤ) → 0 < e.under → pos 0 ≤ℤ ((f.over *ℤ pos e.under -ℤ e.over *ℤ pos f.under) *ℤ w) → HoldsAt e t w → HoldsAt f t w
carried e f t w pe h k =
    not_negative_from (pos e.under) (pos f.under *ℤ t +ℤ f.over *ℤ w) (omega (arith, ints))
    (joined (pos e.under *ℤ (pos f.under *ℤ t +ℤ f.over *ℤ w)) (pos e.under *ℤ (pos f.under *ℤ t)) (pos e.under *ℤ (f.over *ℤ w)) (pos f.under *ℤ (pos e.under *ℤ t +ℤ e.over *ℤ w)) (pos f.under *ℤ (pos e.under *ℤ t)) (pos f.under *ℤ (e.over *ℤ w)) ((f.over *ℤ pos e.under -ℤ e.over *ℤ pos f.under) *ℤ w) (f.over *ℤ pos e.under *ℤ w) (neg_ℤ (e.over *ℤ pos f.under) *ℤ w) (e.over *ℤ pos f.under *ℤ w)
    (mul-add_ℤ (pos e.under) (pos f.under *ℤ t) (f.over *ℤ w))
    (mul-add_ℤ (pos f.under) (pos e.under *ℤ t) (e.over *ℤ w))
    (product_not_negative (pos f.under) (pos e.under *ℤ t +ℤ e.over *ℤ w) (omega (arith, ints)) k)
    (inner (pos e.under) (pos f.under) t)
    (outer (pos e.under) f.over w)
    (outer (pos f.under) e.over w)
    (ap (λ z. z *ℤ w) (minus (f.over *ℤ pos e.under) (e.over *ℤ pos f.under)) ∙ add-mul_ℤ (f.over *ℤ pos e.under) (neg_ℤ (e.over *ℤ pos f.under)) w)
    (neg-mul_ℤ (e.over *ℤ pos f.under) w)
    h)
  where
    minus : (a b : ℤ) → a -ℤ b ≡ a +ℤ neg_ℤ b
    minus a b = omega (arith, ints)

    inner : (x y z : ℤ) → x *ℤ (y *ℤ z) ≡ y *ℤ (x *ℤ z)
    inner x y z = same_in (x *ℤ (y *ℤ z)) (y *ℤ (x *ℤ z)) (simp (up_product, down_product) (omega arith))

    outer : (x y z : ℤ) → x *ℤ (y *ℤ z) ≡ y *ℤ x *ℤ z
    outer x y z = same_in (x *ℤ (y *ℤ z)) (y *ℤ x *ℤ z) (simp (up_product, down_product) (omega arith))

    joined : (l a b m c e n x y z : ℤ) → l ≡ a +ℤ b → m ≡ c +ℤ e → pos 0 ≤ℤ m → a ≡ c → b ≡ x → e ≡ z → n ≡ x +ℤ y → y ≡ neg_ℤ z → pos 0 ≤ℤ n → pos 0 ≤ℤ l
    joined l a b m c e n x y z f g h i j k o p q = omega (arith, ints)

-- Which of two fractions is better, where the factor of v has the sign.
record Betters (better : Fraction → Fraction → Fraction) (Sign : ℤ → Type 0) : Type 0 where
  keeps_one : (e f : Fraction) → (better e f ≡ e) ⊎ (better e f ≡ f)
  first : (e f : Fraction) (t w : ℤ) → 0 < e.under → Sign w → HoldsAt e t w → HoldsAt (better e f) t w
  second : (e f : Fraction) (t w : ℤ) → 0 < f.under → Sign w → HoldsAt f t w → HoldsAt (better e f) t w

NotNegative : ℤ → Type 0
NotNegative w = pos 0 ≤ℤ w

NotPositive : ℤ → Type 0
NotPositive w = w ≤ℤ pos 0

gap_up : (a b w : ℤ) → b ≤ℤ a → pos 0 ≤ℤ w → pos 0 ≤ℤ ((a -ℤ b) *ℤ w)
gap_up a b w h k = product_not_negative (a -ℤ b) w (omega (arith, ints)) k

gap_down : (a b w : ℤ) → a ≤ℤ b → w ≤ℤ pos 0 → pos 0 ≤ℤ ((a -ℤ b) *ℤ w)
gap_down a b w h k =
    let p : pos 0 ≤ℤ ((b -ℤ a) *ℤ neg_ℤ w) = product_not_negative (b -ℤ a) (neg_ℤ w) (omega (arith, ints)) (omega (arith, ints)) in
    subst (λ (z : ℤ). pos 0 ≤ℤ z) (turned (b -ℤ a) (a -ℤ b) w (omega (arith, ints))) p
  where
    turned : (x y z : ℤ) → x ≡ neg_ℤ y → x *ℤ neg_ℤ z ≡ y *ℤ z
    turned x y z e = ap (λ k. k *ℤ neg_ℤ z) e ∙ neg-mul_ℤ y (neg_ℤ z) ∙ ap neg_ℤ (*ℤ_comm y (neg_ℤ z) ∙ neg-mul_ℤ z y) ∙ twice (z *ℤ y) ∙ *ℤ_comm z y
      where
        twice : (k : ℤ) → neg_ℤ (neg_ℤ k) ≡ k
        twice k = omega (arith, ints)

at_most_is : (e f : Fraction) → is_at_most e f ≡ true → (e.over *ℤ pos f.under) ≤ℤ (f.over *ℤ pos e.under)
at_most_is e f h = told (e.over *ℤ pos f.under) (f.over *ℤ pos e.under) h
  where
    told : (a b : ℤ) → int_le a b ≡ true → a ≤ℤ b
    told a b h = grind (arith, ints)

not_at_most : (e f : Fraction) → is_at_most e f ≡ false → (f.over *ℤ pos e.under) ≤ℤ (e.over *ℤ pos f.under)
not_at_most e f h = told (e.over *ℤ pos f.under) (f.over *ℤ pos e.under) h
  where
    told : (a b : ℤ) → int_le a b ≡ false → b ≤ℤ a
    told a b h = grind (arith, ints)

greater_betters : Betters greater NotNegative
unfolding NotNegative
greater_betters = record { keeps_one = one; first = first; second = second }
  where
    one : (e f : Fraction) → (greater e f ≡ e) ⊎ (greater e f ≡ f)
    one e f = by_test (is_at_most f e)
      where
        by_test : (b : Bool) → ((if b then e else f) ≡ e) ⊎ ((if b then e else f) ≡ f)
        by_test true = inl refl
        by_test false = inr refl

    first : (e f : Fraction) (t w : ℤ) → 0 < e.under → pos 0 ≤ℤ w → HoldsAt e t w → HoldsAt (greater e f) t w
    first e f t w pe s h = by_test (is_at_most f e) refl
      where
        by_test : (b : Bool) → is_at_most f e ≡ b → HoldsAt (if b then e else f) t w
        by_test true g = h
        by_test false g = carried e f t w pe (gap_up (f.over *ℤ pos e.under) (e.over *ℤ pos f.under) w (not_at_most f e g) s) h

    second : (e f : Fraction) (t w : ℤ) → 0 < f.under → pos 0 ≤ℤ w → HoldsAt f t w → HoldsAt (greater e f) t w
    second e f t w pf s h = by_test (is_at_most f e) refl
      where
        by_test : (b : Bool) → is_at_most f e ≡ b → HoldsAt (if b then e else f) t w
        by_test true g = carried f e t w pf (gap_up (e.over *ℤ pos f.under) (f.over *ℤ pos e.under) w (at_most_is f e g) s) h
        by_test false g = h

lesser_betters : Betters lesser NotPositive
unfolding NotPositive
lesser_betters = record { keeps_one = one; first = first; second = second }
  where
    one : (e f : Fraction) → (lesser e f ≡ e) ⊎ (lesser e f ≡ f)
    one e f = by_test (is_at_most e f)
      where
        by_test : (b : Bool) → ((if b then e else f) ≡ e) ⊎ ((if b then e else f) ≡ f)
        by_test true = inl refl
        by_test false = inr refl

    first : (e f : Fraction) (t w : ℤ) → 0 < e.under → w ≤ℤ pos 0 → HoldsAt e t w → HoldsAt (lesser e f) t w
    first e f t w pe s h = by_test (is_at_most e f) refl
      where
        by_test : (b : Bool) → is_at_most e f ≡ b → HoldsAt (if b then e else f) t w
        by_test true g = h
        by_test false g = carried e f t w pe (gap_down (f.over *ℤ pos e.under) (e.over *ℤ pos f.under) w (not_at_most e f g) s) h

    second : (e f : Fraction) (t w : ℤ) → 0 < f.under → w ≤ℤ pos 0 → HoldsAt f t w → HoldsAt (lesser e f) t w
    second e f t w pf s h = by_test (is_at_most e f) refl
      where
        by_test : (b : Bool) → is_at_most e f ≡ b → HoldsAt (if b then e else f) t w
        by_test true g = carried f e t w pf (gap_down (e.over *ℤ pos f.under) (f.over *ℤ pos e.under) w (at_most_is e f g) s) h
        by_test false g = h

-- the row holds with the fraction for v
abbrev RowHoldsAt : (ℕ → ℤ) → ℤ → ℕ → Fraction → Row → Type 0
RowHoldsAt num d v f r = HoldsAt f (total num d r) (factor v r.terms *ℤ d)

bound_holds : (h : Fraction) (a n d : ℤ) → IsNegatedOver h a n d → HoldsAt h n (a *ℤ d)
bound_holds h a n d w = both (pos h.under *ℤ n) (h.over *ℤ (a *ℤ d)) (n *ℤ pos h.under) (*ℤ_comm (pos h.under) n) w.value
  where
    both : (x y z : ℤ) → x ≡ z → y ≡ neg_ℤ z → pos 0 ≤ℤ (x +ℤ y)
    both x y z e f = omega (arith, ints)

-- what the best of bounds is
record IsBest (num : ℕ → ℤ) (d : ℤ) (v : ℕ) (Sign : ℤ → Type 0) (best : Fraction) (rows : List Row) (result : Fraction) : Type 0 where
  positive : 0 < result.under
  passes_on : (t w : ℤ) → Sign w → HoldsAt best t w → HoldsAt result t w
  holds : (r : Row) → In r rows → RowHoldsAt num d v result r
  origin : (result ≡ best) ⊎ ((r : Row) × In r rows × IsNegatedOver result (factor v r.terms) (total num d r) d)

-- each row has a factor of v of the sign
abbrev HaveSign : ℤ → ℕ → (ℤ → Type 0) → List Row → Type 0
HaveSign d v Sign rows = (r : Row) → In r rows → (factor v r.terms ≡ pos 0 → ⊥) × Sign (factor v r.terms *ℤ d)

positive_under : (better : Fraction → Fraction → Fraction) (e f : Fraction) → ((better e f ≡ e) ⊎ (better e f ≡ f)) → 0 < e.under → 0 < f.under → 0 < (better e f).under
positive_under better e f (inl h) p q = subst (λ (x : Fraction). 0 < x.under) (sym h) p
positive_under better e f (inr h) p q = subst (λ (x : Fraction). 0 < x.under) (sym h) q

best_after_is : (better : Fraction → Fraction → Fraction) (Sign : ℤ → Type 0) → Betters better Sign → (b : Bool) (v : ℕ) (values : List Fraction) (num : ℕ → ℤ) (d : ℤ) → AreWorth values num d → num v ≡ pos 0 → (best : Fraction) (rows : List Row) (result : Fraction) → 0 < best.under → HaveSign d v Sign rows → best_after better b v values best rows ≡ Some result → IsBest num d v Sign best rows result
best_after_is better Sign s b v values num d ws z best [] result p h e = record {
  positive = subst (λ (x : Fraction). 0 < x.under) is p;
  passes_on = λ t w q k. subst (λ (x : Fraction). HoldsAt x t w) is k;
  holds = λ r k. absurd k;
  origin = inl (sym is);
}
  where
    is : best ≡ result
    is = cc
best_after_is better Sign s b v values num d ws z best (r ∷ rs) result p h e =
    let c = if_some_is (bound b v values r) (λ x. best_after better b v values (better best x) rs) result e in
    let wc = bound_worth b v values num d r c.0 ws z (h r (inl refl)).0 c.1 in
    let q : 0 < (better best c.0).under = positive_under better best c.0 (s.keeps_one best c.0) p wc.positive in
    combine c.0 wc (best_after_is better Sign s b v values num d ws z (better best c.0) rs result q (λ x k. h x (inr k)) c.2)
  where
    combine : (c : Fraction) → IsNegatedOver c (factor v r.terms) (total num d r) d → IsBest num d v Sign (better best c) rs result → IsBest num d v Sign best (r ∷ rs) result
    combine c wc k = record {
      positive = k.positive;
      passes_on = λ t w q g. k.passes_on t w q (s.first best c t w p q g);
      holds = holds;
      origin = by_origin k.origin;
    }
      where
        own : RowHoldsAt num d v result r
        own = k.passes_on (total num d r) (factor v r.terms *ℤ d) (h r (inl refl)).1 (s.second best c (total num d r) (factor v r.terms *ℤ d) wc.positive (h r (inl refl)).1 (bound_holds c (factor v r.terms) (total num d r) d wc))

        holds : (x : Row) → In x (r ∷ rs) → RowHoldsAt num d v result x
        holds x (inl g) = subst (λ (y : Row). RowHoldsAt num d v result y) g own
        holds x (inr g) = k.holds x g

        by_better : result ≡ better best c → ((better best c ≡ best) ⊎ (better best c ≡ c)) → (result ≡ best) ⊎ ((x : Row) × In x (r ∷ rs) × IsNegatedOver result (factor v x.terms) (total num d x) d)
        by_better e (inl g) = inl (e ∙ g)
        by_better e (inr g) = inr (r, inl refl, subst (λ (y : Fraction). IsNegatedOver y (factor v r.terms) (total num d r) d) (sym (e ∙ g)) wc)

        by_origin : (result ≡ better best c) ⊎ ((x : Row) × In x rs × IsNegatedOver result (factor v x.terms) (total num d x) d) → (result ≡ best) ⊎ ((x : Row) × In x (r ∷ rs) × IsNegatedOver result (factor v x.terms) (total num d x) d)
        by_origin (inl e) = by_better e (s.keeps_one best c)
        by_origin (inr g) = inr (g.0, inr g.1, g.2)

-- The best of the rows' bounds is one of them, and all the rows hold there.
record IsBestOf (num : ℕ → ℤ) (d : ℤ) (v : ℕ) (rows : List Row) (result : Fraction) : Type 0 where
  positive : 0 < result.under
  holds : (r : Row) → In r rows → RowHoldsAt num d v result r
  row : Row
  is_in : In row rows
  bound_is : IsNegatedOver result (factor v row.terms) (total num d row) d

best_of_is : (better : Fraction → Fraction → Fraction) (Sign : ℤ → Type 0) → Betters better Sign → (b : Bool) (v : ℕ) (values : List Fraction) (num : ℕ → ℤ) (d : ℤ) → AreWorth values num d → num v ≡ pos 0 → (r : Row) (rows : List Row) (result : Fraction) → HaveSign d v Sign (r ∷ rows) → best_of better b v values r rows ≡ Some result → IsBestOf num d v (r ∷ rows) result
best_of_is better Sign s b v values num d ws z r rs result h e =
    let c = if_some_is (bound b v values r) (λ x. best_after better b v values x rs) result e in
    let wc = bound_worth b v values num d r c.0 ws z (h r (inl refl)).0 c.1 in
    let k = best_after_is better Sign s b v values num d ws z c.0 rs result wc.positive (λ x g. h x (inr g)) c.2 in
    let own : RowHoldsAt num d v result r = k.passes_on (total num d r) (factor v r.terms *ℤ d) (h r (inl refl)).1 (bound_holds c.0 (factor v r.terms) (total num d r) d wc) in
    by_origin c.0 wc k own k.origin
  where
    holds : (c : Fraction) → IsBest num d v Sign c rs result → RowHoldsAt num d v result r → (x : Row) → In x (r ∷ rs) → RowHoldsAt num d v result x
    holds c k own x (inl g) = subst (λ (y : Row). RowHoldsAt num d v result y) g own
    holds c k own x (inr g) = k.holds x g

    by_origin : (c : Fraction) → IsNegatedOver c (factor v r.terms) (total num d r) d → IsBest num d v Sign c rs result → RowHoldsAt num d v result r → (result ≡ c) ⊎ ((x : Row) × In x rs × IsNegatedOver result (factor v x.terms) (total num d x) d) → IsBestOf num d v (r ∷ rs) result
    by_origin c wc k own (inl g) = record { positive = k.positive; holds = holds c k own; row = r; is_in = inl refl; bound_is = subst (λ (y : Fraction). IsNegatedOver y (factor v r.terms) (total num d r) d) (sym g) wc }
    by_origin c wc k own (inr g) = record { positive = k.positive; holds = holds c k own; row = g.0; is_in = inr g.1; bound_is = g.2 }

-- ---- rows without the variable, and those that lower it where others raise it
-- The value p / q is the bound of a row with a positive factor; a combination of both rows holds; so the row with a negative
-- factor holds.
crossed : (p : Fraction) (a c t u d : ℤ) (m : Multipliers) (g : ℕ) → 0 < g → 0 < p.under → pos 0 <ℤ c → pos g *ℤ m.of_raising ≡ neg_ℤ a → pos g *ℤ m.of_lowering ≡ c → IsNegatedOver p c u d → pos 0 ≤ℤ (m.of_raising *ℤ u +ℤ m.of_lowering *ℤ t) → HoldsAt p t (a *ℤ d)
crossed p a c t u d m g pg pq pc ea ec w h =
    not_negative_from c (pos p.under *ℤ t +ℤ p.over *ℤ (a *ℤ d)) pc
    (joined (c *ℤ (pos p.under *ℤ t +ℤ p.over *ℤ (a *ℤ d))) (c *ℤ (pos p.under *ℤ t)) (c *ℤ (p.over *ℤ (a *ℤ d))) (neg_ℤ a *ℤ (u *ℤ pos p.under)) (pos g *ℤ pos p.under *ℤ (m.of_raising *ℤ u +ℤ m.of_lowering *ℤ t)) (pos g *ℤ pos p.under *ℤ (m.of_raising *ℤ u)) (pos g *ℤ pos p.under *ℤ (m.of_lowering *ℤ t))
    (mul-add_ℤ c (pos p.under *ℤ t) (p.over *ℤ (a *ℤ d)))
    (ap (λ z. z *ℤ (pos p.under *ℤ t)) (sym ec) ∙ first (pos g) m.of_lowering (pos p.under) t)
    (second c p.over a d ∙ ap (λ z. a *ℤ z) w.value ∙ times_neg a (u *ℤ pos p.under) ∙ sym (neg-mul_ℤ a (u *ℤ pos p.under)))
    (ap (λ z. z *ℤ (u *ℤ pos p.under)) (sym ea) ∙ third (pos g) m.of_raising u (pos p.under))
    (mul-add_ℤ (pos g *ℤ pos p.under) (m.of_raising *ℤ u) (m.of_lowering *ℤ t))
    (product_not_negative (pos g *ℤ pos p.under) (m.of_raising *ℤ u +ℤ m.of_lowering *ℤ t) (product_not_negative (pos g) (pos p.under) (omega (arith, ints)) (omega (arith, ints))) h))
  where
    first : (x y z k : ℤ) → x *ℤ y *ℤ (z *ℤ k) ≡ x *ℤ z *ℤ (y *ℤ k)
    first x y z k = same_in (x *ℤ y *ℤ (z *ℤ k)) (x *ℤ z *ℤ (y *ℤ k)) (simp (up_product, down_product) (omega arith))

    second : (x y z k : ℤ) → x *ℤ (y *ℤ (z *ℤ k)) ≡ z *ℤ (y *ℤ (x *ℤ k))
    second x y z k = same_in (x *ℤ (y *ℤ (z *ℤ k))) (z *ℤ (y *ℤ (x *ℤ k))) (simp (up_product, down_product) (omega arith))

    third : (x y z k : ℤ) → x *ℤ y *ℤ (z *ℤ k) ≡ x *ℤ k *ℤ (y *ℤ z)
    third x y z k = same_in (x *ℤ y *ℤ (z *ℤ k)) (x *ℤ k *ℤ (y *ℤ z)) (simp (up_product, down_product) (omega arith))

    times_neg : (x y : ℤ) → x *ℤ neg_ℤ y ≡ neg_ℤ (x *ℤ y)
    times_neg x y = *ℤ_comm x (neg_ℤ y) ∙ neg-mul_ℤ y x ∙ ap neg_ℤ (*ℤ_comm y x)

    joined : (l x y n k e f : ℤ) → l ≡ x +ℤ y → x ≡ f → y ≡ n → n ≡ e → k ≡ e +ℤ f → pos 0 ≤ℤ k → pos 0 ≤ℤ l
    joined l x y n k e f g h i j o p = omega (arith, ints)

-- ---- rows in form
-- Each row's terms stand in order, its variables are below n, and it has one.
abbrev pub InForm : ℕ → List Row → Type 0
InForm n rows = (r : Row) → In r rows → IsOrdered r.terms × AllBelow n r.terms × (is_constant r ≡ false)

quotients_below : (n k : ℕ) (ts : List Term) → AllBelow n ts → AllBelow n (map (λ t. (t.0, quotient t.1 k)) ts)
quotients_below n k [] b = tt
quotients_below n k (t ∷ ts) b = (b.0, quotients_below n k ts b.1)

quotients_ordered : (m k : ℕ) (ts : List Term) → 0 < k → Divides k ts → IsOrderedFrom m ts → IsOrderedFrom m (map (λ t. (t.0, quotient t.1 k)) ts)
quotients_ordered m k [] some h o = tt
quotients_ordered m k (t ∷ ts) some h o =
    (o.0, (λ e. o.1 (sym (exact_ℤ t.1 k some h.0) ∙ ap (λ z. pos k *ℤ z) e ∙ nothing (pos k))), quotients_ordered (t.0 + 1) k ts some h.1 o.2)
  where
    nothing : (z : ℤ) → z *ℤ pos 0 ≡ pos 0
    nothing z = omega (arith, ints)

divided_form : (n k : ℕ) (r : Row) → Divides k r.terms → IsOrdered r.terms → AllBelow n r.terms → IsOrdered (divided k r).terms × AllBelow n (divided k r).terms
divided_form n zero r h o b = (o, b)
divided_form n (suc k) r h o b = (quotients_ordered 0 (suc k) r.terms (omega arith) h o, quotients_below n (suc k) r.terms b)

normalised_form : (n : ℕ) (r : Row) → IsOrdered r.terms → AllBelow n r.terms → IsOrdered (normalised r).terms × AllBelow n (normalised r).terms
normalised_form n r o b = divided_form n (content r.terms) r (content_divides r.terms) o b

below_last : (m v : ℕ) (ts : List Term) → IsOrderedFrom m ts → AllBelow (suc v) ts → factor v ts ≡ pos 0 → AllBelow v ts
below_last m v [] o b z = tt
below_last m v (t ∷ ts) o b z = by_place (eqb_tells v t.0) (λ e. below_last (t.0 + 1) v ts o.2 b.1 e)
  where
    by_place : (((v == t.0) ≡ true) × (v ≡ t.0)) ⊎ (((v == t.0) ≡ false) × (v ≢ t.0)) → (factor v ts ≡ pos 0 → AllBelow v ts) → (t.0 < v) × AllBelow v ts
    by_place (inl e) rest = absurd (o.1 (sym (factor_head t ts m o) ∙ ap (λ (x : ℕ). factor x (t ∷ ts)) (sym e.1) ∙ z))
    by_place (inr e) rest =
        let l : t.0 < suc v = b.0 in
        let n : v ≡ t.0 → ⊥ = e.1 in
        (omega arith, rest (sym (factor_other v t ts e.1) ∙ z))

combination_form : (v : ℕ) (p n : Row) → IsOrdered (combination v p n).terms × AllBelow v (combination v p n).terms
unfolding combination
combination_form v p n = (below_ordered v (λ x. sum_of (multipliers v p n) (factor x p.terms) (factor x n.terms)), below_all v (λ x. sum_of (multipliers v p n) (factor x p.terms) (factor x n.terms)))

pub next_form : (v : ℕ) (rows next : List Row) → InForm (suc v) rows → Offered (without v rows) (combinations v (raising v rows) (lowering v rows)) next → InForm v next
next_form v rows next f o q h = by_from (o.from q h)
  where
    by_from : In q (without v rows) ⊎ ((r : Row) × In r (combinations v (raising v rows) (lowering v rows)) × (q ≡ normalised r) × (is_constant q ≡ false)) → IsOrdered q.terms × AllBelow v q.terms × (is_constant q ≡ false)
    by_from (inl x) =
        let g = filter_in (λ r. int_eq (factor v r.terms) (pos 0)) q rows x in
        let k = f q g.0 in
        (k.0, below_last 0 v q.terms k.0 k.1 ((Decides-int_eq (factor v q.terms) (pos 0)).0 g.1), k.2)
    by_from (inr x) =
        let c = combinations_in v (raising v rows) (lowering v rows) x.0 x.1 in
        let k = combination_form v c.0 c.1 in
        let m = normalised_form v (combination v c.0 c.1) k.0 k.1 in
        let is : q ≡ normalised (combination v c.0 c.1) = x.2 ∙ ap normalised c.4 in
        (subst (λ (z : Row). IsOrdered z.terms) (sym is) m.0, subst (λ (z : Row). AllBelow v z.terms) (sym is) m.1, x.3)

-- ---- one variable more
pub record Solved (n : ℕ) (values : List Fraction) (rows : List Row) : Type 0 where
  pub num : ℕ → ℤ
  pub d : ℤ
  pub positive : pos 0 <ℤ d
  pub worth : AreWorth values num d
  pub length_is : length values ≡ n
  pub holds : AllHold num d rows

-- which rows those are
data Sorted (v : ℕ) (rows : List Row) (r : Row) : Type 0 where
  absent : factor v r.terms ≡ pos 0 → In r (without v rows) → Sorted v rows r
  raises : In r (raising v rows) → Sorted v rows r
  lowers : In r (lowering v rows) → Sorted v rows r

sorted : (v : ℕ) (rows : List Row) (r : Row) → In r rows → Sorted v rows r
sorted v rows r h = by_tests (int_lt (pos 0) (factor v r.terms)) (int_lt (factor v r.terms) (pos 0)) refl refl
  where
    nothing : (z : ℤ) → int_lt (pos 0) z ≡ false → int_lt z (pos 0) ≡ false → z ≡ pos 0
    nothing z e f = let a : z ≤ℤ pos 0 = up_to z e in let b : pos 0 ≤ℤ z = down_to z f in omega (arith, ints)
      where
        up_to : (z : ℤ) → int_lt (pos 0) z ≡ false → z ≤ℤ pos 0
        up_to z e = grind (arith, ints)

        down_to : (z : ℤ) → int_lt z (pos 0) ≡ false → pos 0 ≤ℤ z
        down_to z e = grind (arith, ints)

    by_tests : (a b : Bool) → int_lt (pos 0) (factor v r.terms) ≡ a → int_lt (factor v r.terms) (pos 0) ≡ b → Sorted v rows r
    by_tests true b e f = raises (in_filter (λ q. int_lt (pos 0) (factor v q.terms)) r rows h e)
    by_tests false true e f = lowers (in_filter (λ q. int_lt (factor v q.terms) (pos 0)) r rows h f)
    by_tests false false e f =
        let z : factor v r.terms ≡ pos 0 = nothing (factor v r.terms) e f in
        absent z (in_filter (λ q. int_eq (factor v q.terms) (pos 0)) r rows h ((Decides-int_eq (factor v r.terms) (pos 0)).1 z))

raising_sign : (d : ℤ) (v : ℕ) (rows : List Row) → pos 0 <ℤ d → HaveSign d v NotNegative (raising v rows)
unfolding NotNegative
raising_sign d v rows pd r h =
    let f = filter_in (λ q. int_lt (pos 0) (factor v q.terms)) r rows h in
    (not_zero (factor v r.terms) f.1, product_not_negative (factor v r.terms) d (more (factor v r.terms) f.1) (omega (arith, ints)))
  where
    not_zero : (z : ℤ) → int_lt (pos 0) z ≡ true → z ≡ pos 0 → ⊥
    not_zero z t e = grind (arith, ints)

    more : (z : ℤ) → int_lt (pos 0) z ≡ true → pos 0 ≤ℤ z
    more z e = grind (arith, ints)

lowering_sign : (d : ℤ) (v : ℕ) (rows : List Row) → pos 0 <ℤ d → HaveSign d v NotPositive (lowering v rows)
unfolding NotPositive
lowering_sign d v rows pd r h =
    let f = filter_in (λ q. int_lt (factor v q.terms) (pos 0)) r rows h in
    (not_zero (factor v r.terms) f.1, turned (factor v r.terms) (less (factor v r.terms) f.1))
  where
    not_zero : (z : ℤ) → int_lt z (pos 0) ≡ true → z ≡ pos 0 → ⊥
    not_zero z t e = grind (arith, ints)

    less : (z : ℤ) → int_lt z (pos 0) ≡ true → pos 0 ≤ℤ neg_ℤ z
    less z e = let k : z ≤ℤ pos 0 = at_most z e in omega (arith, ints)
      where
        at_most : (z : ℤ) → int_lt z (pos 0) ≡ true → z ≤ℤ pos 0
        at_most z e = grind (arith, ints)

    turned : (z : ℤ) → pos 0 ≤ℤ neg_ℤ z → (z *ℤ d) ≤ℤ pos 0
    turned z h =
        let p : pos 0 ≤ℤ (neg_ℤ z *ℤ d) = product_not_negative (neg_ℤ z) d h (omega (arith, ints)) in
        flip (neg_ℤ z *ℤ d) (z *ℤ d) p (neg-mul_ℤ z d)
      where
        flip : (x y : ℤ) → pos 0 ≤ℤ x → x ≡ neg_ℤ y → y ≤ℤ pos 0
        flip x y p e = omega (arith, ints)

-- a row without v holds whatever v is
absent_holds : (num : ℕ → ℤ) (d : ℤ) (v : ℕ) (f : Fraction) (r : Row) → factor v r.terms ≡ pos 0 → pos 0 ≤ℤ total num d r → RowHoldsAt num d v f r
absent_holds num d v f r z h =
    sum (pos f.under *ℤ total num d r) (f.over *ℤ (factor v r.terms *ℤ d)) (product_not_negative (pos f.under) (total num d r) (omega (arith, ints)) h)
    (ap (λ k. f.over *ℤ (k *ℤ d)) z ∙ ap (λ k. f.over *ℤ k) (zero-*ℤ d) ∙ nothing f.over)
  where
    nothing : (k : ℤ) → k *ℤ pos 0 ≡ pos 0
    nothing k = omega (arith, ints)

    sum : (a b : ℤ) → pos 0 ≤ℤ a → b ≡ pos 0 → pos 0 ≤ℤ (a +ℤ b)
    sum a b h e = omega (arith, ints)

-- a row that lowers v, where the value is the bound of one that raises it
lowered_holds : (num : ℕ → ℤ) (d : ℤ) (v : ℕ) (rows next : List Row) (f : Fraction) (p r : Row) → pos 0 <ℤ d → num v ≡ pos 0 → InForm (suc v) rows → Offered (without v rows) (combinations v (raising v rows) (lowering v rows)) next → AllHold num d next → In p (raising v rows) → In r (lowering v rows) → 0 < f.under → IsNegatedOver f (factor v p.terms) (total num d p) d → RowHoldsAt num d v f r
lowered_holds num d v rows next f p r pd z form o all hp hr pf w =
    crossed f (factor v r.terms) (factor v p.terms) (total num d r) (total num d p) d (multipliers v p r) (gcd_of (unsigned_abs (factor v p.terms)) (unsigned_abs (factor v r.terms)))
    (divisor_positive (gcd_of (unsigned_abs (factor v p.terms)) (unsigned_abs (factor v r.terms))) (unsigned_abs (factor v p.terms)) g.0 (size_positive (factor v p.terms) fp.1))
    pf (positive (factor v p.terms) fp.1)
    (ap pos (mul_comm (gcd_of (unsigned_abs (factor v p.terms)) (unsigned_abs (factor v r.terms))) (unsigned_abs (factor v r.terms) / gcd_of (unsigned_abs (factor v p.terms)) (unsigned_abs (factor v r.terms))) ∙ exact_ℕ (unsigned_abs (factor v r.terms)) (gcd_of (unsigned_abs (factor v p.terms)) (unsigned_abs (factor v r.terms))) g.1) ∙ abs_down (factor v r.terms) (not_positive (factor v r.terms) fr.1))
    (ap pos (mul_comm (gcd_of (unsigned_abs (factor v p.terms)) (unsigned_abs (factor v r.terms))) (unsigned_abs (factor v p.terms) / gcd_of (unsigned_abs (factor v p.terms)) (unsigned_abs (factor v r.terms))) ∙ exact_ℕ (unsigned_abs (factor v p.terms)) (gcd_of (unsigned_abs (factor v p.terms)) (unsigned_abs (factor v r.terms))) g.0) ∙ abs_up (factor v p.terms) (not_negative (factor v p.terms) fp.1))
    w
    (subst (λ (k : ℤ). pos 0 ≤ℤ k) (combination_total num d v p r (form p fp.0).1 (form r fr.0).1 z) (offered_holds num d next (combination v p r) pd all (o.new (combination v p r) (in_combinations v (raising v rows) (lowering v rows) p r hp hr))))
  where
    g : (gcd_of (unsigned_abs (factor v p.terms)) (unsigned_abs (factor v r.terms)) ∣ unsigned_abs (factor v p.terms)) × (gcd_of (unsigned_abs (factor v p.terms)) (unsigned_abs (factor v r.terms)) ∣ unsigned_abs (factor v r.terms)) × ((k : ℕ) → k ∣ unsigned_abs (factor v p.terms) → k ∣ unsigned_abs (factor v r.terms) → k ∣ gcd_of (unsigned_abs (factor v p.terms)) (unsigned_abs (factor v r.terms)))
    g = gcd_is (unsigned_abs (factor v p.terms)) (unsigned_abs (factor v r.terms))

    fp : In p rows × (int_lt (pos 0) (factor v p.terms) ≡ true)
    fp = filter_in (λ q. int_lt (pos 0) (factor v q.terms)) p rows hp

    fr : In r rows × (int_lt (factor v r.terms) (pos 0) ≡ true)
    fr = filter_in (λ q. int_lt (factor v q.terms) (pos 0)) r rows hr

    positive : (k : ℤ) → int_lt (pos 0) k ≡ true → pos 0 <ℤ k
    positive k e = grind (arith, ints)

    not_negative : (k : ℤ) → int_lt (pos 0) k ≡ true → pos 0 ≤ℤ k
    not_negative k e = grind (arith, ints)

    not_positive : (k : ℤ) → int_lt k (pos 0) ≡ true → k ≤ℤ pos 0
    not_positive k e = grind (arith, ints)

    size_positive : (k : ℤ) → int_lt (pos 0) k ≡ true → 0 < unsigned_abs k
    size_positive (pos zero) e = absurd (cc)
    size_positive (pos (suc n)) e = omega arith
    size_positive (negsuc n) e = omega arith

record ValueHolds (num : ℕ → ℤ) (d : ℤ) (v : ℕ) (rows : List Row) (f : Fraction) : Type 0 where
  positive : 0 < f.under
  holds : (r : Row) → In r rows → RowHoldsAt num d v f r

value_holds : (b : Bool) (v : ℕ) (values : List Fraction) (rows next : List Row) (num : ℕ → ℤ) (d : ℤ) (f : Fraction) → pos 0 <ℤ d → AreWorth values num d → num v ≡ pos 0 → InForm (suc v) rows → Offered (without v rows) (combinations v (raising v rows) (lowering v rows)) next → AllHold num d next → value_of b v values rows ≡ Some f → ValueHolds num d v rows f
unfolding value_of
value_holds b v values rows next num d f pd ws z form o all e = by_lists (raising v rows) (lowering v rows) refl refl e
  where
    absent_row : (r : Row) → factor v r.terms ≡ pos 0 → In r (without v rows) → RowHoldsAt num d v f r
    absent_row r e h = absent_holds num d v f r e (has_holds num d next r pd all (o.old r h))

    by_lists : (lower upper : List Row) → raising v rows ≡ lower → lowering v rows ≡ upper → least_allowed b v values lower upper ≡ Some f → ValueHolds num d v rows f
    by_lists [] [] el eu e = record { positive = subst (λ (x : Fraction). 0 < x.under) is (omega arith); holds = λ r h. by_sort r (sorted v rows r h) }
      where
        is : whole (pos 0) ≡ f
        is = cc

        by_sort : (r : Row) → Sorted v rows r → RowHoldsAt num d v f r
        by_sort r (absent e k) = absent_row r e k
        by_sort r (raises k) = absurd (subst (In r) el k)
        by_sort r (lowers k) = absurd (subst (In r) eu k)
    by_lists [] (u ∷ us) el eu e = record { positive = k.positive; holds = λ r h. by_sort r (sorted v rows r h) }
      where
        k : IsBestOf num d v (u ∷ us) f
        k = best_of_is lesser NotPositive lesser_betters b v values num d ws z u us f (subst (HaveSign d v NotPositive) eu (lowering_sign d v rows pd)) e

        by_sort : (r : Row) → Sorted v rows r → RowHoldsAt num d v f r
        by_sort r (absent e h) = absent_row r e h
        by_sort r (raises h) = absurd (subst (In r) el h)
        by_sort r (lowers h) = k.holds r (subst (In r) eu h)
    by_lists (l ∷ ls) upper el eu e = record { positive = k.positive; holds = λ r h. by_sort r (sorted v rows r h) }
      where
        k : IsBestOf num d v (l ∷ ls) f
        k = best_of_is greater NotNegative greater_betters b v values num d ws z l ls f (subst (HaveSign d v NotNegative) el (raising_sign d v rows pd)) e

        by_sort : (r : Row) → Sorted v rows r → RowHoldsAt num d v f r
        by_sort r (absent e h) = absent_row r e h
        by_sort r (raises h) = k.holds r (subst (In r) el h)
        by_sort r (lowers h) = lowered_holds num d v rows next f k.row r pd z form o all (subst (In k.row) (sym el) k.is_in) h k.positive k.bound_is

-- what sets the value of v: nothing, or the bound of a row
pub data ValueOrigin (num : ℕ → ℤ) (d : ℤ) (v : ℕ) (rows : List Row) (f : Fraction) : Type 0 where
  free : f ≡ whole (pos 0) → ValueOrigin num d v rows f
  bound_of : (r : Row) → In r rows → IsNegatedOver f (factor v r.terms) (total num d r) d → (factor v r.terms ≡ pos 0 → ⊥) → ValueOrigin num d v rows f

pub value_origin : (b : Bool) (v : ℕ) (values : List Fraction) (rows : List Row) (num : ℕ → ℤ) (d : ℤ) (f : Fraction) → pos 0 <ℤ d → AreWorth values num d → num v ≡ pos 0 → value_of b v values rows ≡ Some f → ValueOrigin num d v rows f
unfolding value_of
value_origin b v values rows num d f pd ws z e = by_lists (raising v rows) (lowering v rows) refl refl e
  where
    by_lists : (lower upper : List Row) → raising v rows ≡ lower → lowering v rows ≡ upper → least_allowed b v values lower upper ≡ Some f → ValueOrigin num d v rows f
    by_lists [] [] el eu e = free (let is : whole (pos 0) ≡ f = cc in sym is)
    by_lists [] (u ∷ us) el eu e =
        let k = best_of_is lesser NotPositive lesser_betters b v values num d ws z u us f (subst (HaveSign d v NotPositive) eu (lowering_sign d v rows pd)) e in
        let g : In k.row (lowering v rows) = subst (In k.row) (sym eu) k.is_in in
        bound_of k.row (filter_in (λ q. int_lt (factor v q.terms) (pos 0)) k.row rows g).0 k.bound_is (lowering_sign d v rows pd k.row g).0
    by_lists (l ∷ ls) upper el eu e =
        let k = best_of_is greater NotNegative greater_betters b v values num d ws z l ls f (subst (HaveSign d v NotNegative) el (raising_sign d v rows pd)) e in
        let g : In k.row (raising v rows) = subst (In k.row) (sym el) k.is_in in
        bound_of k.row (filter_in (λ q. int_lt (pos 0) (factor v q.terms)) k.row rows g).0 k.bound_is (raising_sign d v rows pd k.row g).0

-- the numerators over d times q, where v is p / q
raised_to : (ℕ → ℤ) → ℤ → ℕ → Fraction → ℕ → ℤ
raised_to num d v f x = num x *ℤ pos f.under +ℤ (if v == x then f.over *ℤ d else pos 0)

sum_raised : (num : ℕ → ℤ) (d : ℤ) (v : ℕ) (f : Fraction) (ts : List Term) → sum_at (raised_to num d v f) ts ≡ pos f.under *ℤ sum_at num ts +ℤ f.over *ℤ (factor v ts *ℤ d)
unfolding raised_to
sum_raised num d v f [] = nothing (pos f.under) (f.over) (pos 0 *ℤ d) (zero-*ℤ d)
  where
    nothing : (a b c : ℤ) → c ≡ pos 0 → pos 0 ≡ a *ℤ pos 0 +ℤ b *ℤ c
    nothing a b c e = subst (λ (z : ℤ). pos 0 ≡ a *ℤ pos 0 +ℤ b *ℤ z) (sym e) (zeros a b)
      where
        zeros : (a b : ℤ) → pos 0 ≡ a *ℤ pos 0 +ℤ b *ℤ pos 0
        zeros a b = omega (arith, ints)
sum_raised num d v f (t ∷ ts) = by_test (v == t.0) (sum_raised num d v f ts)
  where
    q : ℤ
    q = pos f.under

    inner : (x y z : ℤ) → x *ℤ (y *ℤ z) ≡ z *ℤ (x *ℤ y)
    inner x y z = same_in (x *ℤ (y *ℤ z)) (z *ℤ (x *ℤ y)) (simp (up_product, down_product) (omega arith))

    outer : (x y z : ℤ) → x *ℤ (y *ℤ z) ≡ y *ℤ (x *ℤ z)
    outer x y z = same_in (x *ℤ (y *ℤ z)) (y *ℤ (x *ℤ z)) (simp (up_product, down_product) (omega arith))

    times_nothing : (a : ℤ) → a *ℤ pos 0 ≡ pos 0
    times_nothing a = omega (arith, ints)

    regroup : (l s a b r c e g : ℤ) → l ≡ a +ℤ b → s ≡ r +ℤ c → e ≡ a +ℤ r → g ≡ b +ℤ c → l +ℤ s ≡ e +ℤ g
    regroup l s a b r c e g h i j k = omega (arith, ints)

    -- what the term adds beyond its multiple
    extra : (x y : ℤ) → t.1 *ℤ x ≡ f.over *ℤ (y *ℤ d) → sum_at (raised_to num d v f) ts ≡ q *ℤ sum_at num ts +ℤ f.over *ℤ (factor v ts *ℤ d) → t.1 *ℤ (num t.0 *ℤ q +ℤ x) +ℤ sum_at (raised_to num d v f) ts ≡ q *ℤ (t.1 *ℤ num t.0 +ℤ sum_at num ts) +ℤ f.over *ℤ ((y +ℤ factor v ts) *ℤ d)
    extra x y e ih =
        regroup (t.1 *ℤ (num t.0 *ℤ q +ℤ x)) (sum_at (raised_to num d v f) ts) (q *ℤ (t.1 *ℤ num t.0)) (f.over *ℤ (y *ℤ d)) (q *ℤ sum_at num ts) (f.over *ℤ (factor v ts *ℤ d)) (q *ℤ (t.1 *ℤ num t.0 +ℤ sum_at num ts)) (f.over *ℤ ((y +ℤ factor v ts) *ℤ d))
        (mul-add_ℤ t.1 (num t.0 *ℤ q) x ∙ ap (λ z. z +ℤ t.1 *ℤ x) (inner t.1 (num t.0) q) ∙ ap (λ z. q *ℤ (t.1 *ℤ num t.0) +ℤ z) e)
        ih
        (mul-add_ℤ q (t.1 *ℤ num t.0) (sum_at num ts))
        (ap (λ z. f.over *ℤ z) (add-mul_ℤ y (factor v ts) d) ∙ mul-add_ℤ f.over (y *ℤ d) (factor v ts *ℤ d))

    by_test : (b : Bool) → sum_at (raised_to num d v f) ts ≡ q *ℤ sum_at num ts +ℤ f.over *ℤ (factor v ts *ℤ d) → t.1 *ℤ (num t.0 *ℤ q +ℤ (if b then f.over *ℤ d else pos 0)) +ℤ sum_at (raised_to num d v f) ts ≡ q *ℤ (t.1 *ℤ num t.0 +ℤ sum_at num ts) +ℤ f.over *ℤ (((if b then t.1 else pos 0) +ℤ factor v ts) *ℤ d)
    by_test true ih = extra (f.over *ℤ d) t.1 (outer t.1 f.over d) ih
    by_test false ih = extra (pos 0) (pos 0) (times_nothing t.1 ∙ sym (ap (λ z. f.over *ℤ z) (zero-*ℤ d) ∙ times_nothing f.over)) ih

raised_holds : (num : ℕ → ℤ) (d : ℤ) (v : ℕ) (f : Fraction) (r : Row) → RowHoldsAt num d v f r → pos 0 ≤ℤ total (raised_to num d v f) (d *ℤ pos f.under) r
raised_holds num d v f r h =
    regroup (sum_at (raised_to num d v f) r.terms) (pos f.under *ℤ sum_at num r.terms) (f.over *ℤ (factor v r.terms *ℤ d)) (r.constant *ℤ (d *ℤ pos f.under)) (pos f.under *ℤ (r.constant *ℤ d)) (pos f.under *ℤ (sum_at num r.terms +ℤ r.constant *ℤ d))
    (sum_raised num d v f r.terms) (outer r.constant d (pos f.under)) (mul-add_ℤ (pos f.under) (sum_at num r.terms) (r.constant *ℤ d)) h
  where
    outer : (x y z : ℤ) → x *ℤ (y *ℤ z) ≡ z *ℤ (x *ℤ y)
    outer x y z = same_in (x *ℤ (y *ℤ z)) (z *ℤ (x *ℤ y)) (simp (up_product, down_product) (omega arith))

    regroup : (s a b c e t : ℤ) → s ≡ a +ℤ b → c ≡ e → t ≡ a +ℤ e → pos 0 ≤ℤ (t +ℤ b) → pos 0 ≤ℤ (s +ℤ c)
    regroup s a b c e t h i j k = omega (arith, ints)

raised_worth : (values : List Fraction) (num : ℕ → ℤ) (d : ℤ) (v : ℕ) (f : Fraction) → length values ≡ v → 0 < f.under → AreWorth values num d → num v ≡ pos 0 → AreWorth (values ++ f ∷ []) (raised_to num d v f) (d *ℤ pos f.under)
unfolding raised_to
raised_worth values num d v f l pf ws z x = by_place (eqb_tells v x)
  where
    outer : (a b c : ℤ) → a *ℤ b *ℤ c ≡ a *ℤ c *ℤ b
    outer a b c = same_in (a *ℤ b *ℤ c) (a *ℤ c *ℤ b) (simp (up_product, down_product) (omega arith))

    plus_nothing : (a b : ℤ) → b ≡ pos 0 → a +ℤ b ≡ a
    plus_nothing a b e = omega (arith, ints)

    nothing_plus : (a b : ℤ) → a ≡ pos 0 → a +ℤ b ≡ b
    nothing_plus a b e = omega (arith, ints)

    other : (g : Fraction) → (v == x) ≡ false → IsWorth g (num x) d → IsWorth g (num x *ℤ pos f.under +ℤ (if v == x then f.over *ℤ d else pos 0)) (d *ℤ pos f.under)
    other g e w = record {
      positive = w.positive;
      value = ap (λ k. k *ℤ pos g.under) (plus_nothing (num x *ℤ pos f.under) (if v == x then f.over *ℤ d else pos 0) (ap (λ (b : Bool). if b then f.over *ℤ d else pos 0) e)) ∙ outer (num x) (pos f.under) (pos g.under) ∙ ap (λ k. k *ℤ pos f.under) w.value ∙ mul_assoc_ℤ g.over d (pos f.under);
    }

    place : (v ≡ x → ⊥) → slice_index_or (values ++ f ∷ []) x (whole (pos 0)) ≡ slice_index_or values x (whole (pos 0))
    place o = elim (cases_lt x v) [
      | inl k ↦ get_or_append_left values (f ∷ []) (whole (pos 0)) x (omega arith)
      | inr k ↦ get_or_past (values ++ f ∷ []) x (whole (pos 0)) (past x o k) ∙ sym (get_or_past values x (whole (pos 0)) (omega arith))
    ]
      where
        past : (x : ℕ) → (v ≡ x → ⊥) → v ≤ x → length (values ++ f ∷ []) ≤ x
        past x o k = let e : length (values ++ f ∷ []) ≡ length values + 1 = length-append values (f ∷ []) in omega arith

    by_place : (((v == x) ≡ true) × (v ≡ x)) ⊎ (((v == x) ≡ false) × (v ≢ x)) → IsWorth (slice_index_or (values ++ f ∷ []) x (whole (pos 0))) (num x *ℤ pos f.under +ℤ (if v == x then f.over *ℤ d else pos 0)) (d *ℤ pos f.under)
    by_place (inl e) =
        subst (λ (g : Fraction). IsWorth g (num x *ℤ pos f.under +ℤ (if v == x then f.over *ℤ d else pos 0)) (d *ℤ pos f.under)) (sym (get_or_push values f (whole (pos 0)) x (l ∙ e.1))) (record {
          positive = pf;
          value =
              ap (λ k. k *ℤ pos f.under) (nothing_plus (num x *ℤ pos f.under) (if v == x then f.over *ℤ d else pos 0) (ap (λ k. k *ℤ pos f.under) (ap num (sym e.1) ∙ z) ∙ zero-*ℤ (pos f.under)) ∙ ap (λ (b : Bool). if b then f.over *ℤ d else pos 0) e.0)
              ∙ mul_assoc_ℤ f.over d (pos f.under);
        })
    by_place (inr e) = subst (λ (g : Fraction). IsWorth g (num x *ℤ pos f.under +ℤ (if v == x then f.over *ℤ d else pos 0)) (d *ℤ pos f.under)) (sym (place e.1)) (other (slice_index_or values x (whole (pos 0))) e.0 (ws x))

-- ---- all variables
length_push : (values : List Fraction) (f : Fraction) (n : ℕ) → length values ≡ n → length (values ++ f ∷ []) ≡ suc n
length_push values f n e = let k : length (values ++ f ∷ []) ≡ length values + 1 = length-append values (f ∷ []) in omega arith

pub value_past : (values : List Fraction) (num : ℕ → ℤ) (d : ℤ) (v : ℕ) → length values ≡ v → AreWorth values num d → num v ≡ pos 0
value_past values num d v l ws =
    let w : IsWorth (whole (pos 0)) (num v) d = subst (λ (g : Fraction). IsWorth g (num v) d) (get_or_past values v (whole (pos 0)) (omega arith)) (ws v) in
    sym (once (num v)) ∙ w.value ∙ zero-*ℤ d
  where
    once : (k : ℤ) → k *ℤ pos 1 ≡ k
    once k = omega (arith, ints)

positive_times : (d : ℤ) (q : ℕ) → pos 0 <ℤ d → 0 < q → pos 0 <ℤ (d *ℤ pos q)
positive_times d (suc q) pd pq =
    let h : pos 0 ≤ℤ (d *ℤ pos q) = product_not_negative d (pos q) (omega (arith, ints)) (omega (arith, ints)) in
    more (d *ℤ pos (suc q)) (d *ℤ pos q) (ap (λ (k : ℕ). d *ℤ pos k) (next q) ∙ mul-add_ℤ d (pos q) (pos 1) ∙ ap (λ k. d *ℤ pos q +ℤ k) (once d)) h
  where
    once : (k : ℤ) → k *ℤ pos 1 ≡ k
    once k = omega (arith, ints)

    next : (n : ℕ) → suc n ≡ n + 1
    next n = omega arith

    more : (a b : ℤ) → a ≡ b +ℤ d → pos 0 ≤ℤ b → pos 0 <ℤ a
    more a b e h = omega (arith, ints)
positive_times d zero pd pq = absurd (omega arith)

step_solved : (b : Bool) (v : ℕ) (values : List Fraction) (rows next : List Row) (f : Fraction) → InForm (suc v) rows → Offered (without v rows) (combinations v (raising v rows) (lowering v rows)) next → Solved v values next → value_of b v values rows ≡ Some f → Solved (suc v) (values ++ f ∷ []) rows
step_solved b v values rows next f form o s e = by_value (value_holds b v values rows next s.num s.d f s.positive s.worth z form o s.holds e)
  where
    z : s.num v ≡ pos 0
    z = value_past values s.num s.d v s.length_is s.worth

    by_value : ValueHolds s.num s.d v rows f → Solved (suc v) (values ++ f ∷ []) rows
    by_value h = record {
      num = raised_to s.num s.d v f;
      d = s.d *ℤ pos f.under;
      positive = positive_times s.d f.under s.positive h.positive;
      worth = raised_worth values s.num s.d v f s.length_is h.positive s.worth z;
      length_is = length_push values f v s.length_is;
      holds = λ r k. raised_holds s.num s.d v f r (h.holds r k);
    }

pub elimination : (b : Bool) (v : ℕ) (rows next : List Row) → eliminated b v rows ≡ keeps next → Offered (without v rows) (combinations v (raising v rows) (lowering v rows)) next
unfolding eliminated
elimination b v rows next e = offered_of b v (without v rows) (combinations v (raising v rows) (lowering v rows)) next (combined_all b v (without v rows) (raising v rows) (lowering v rows) next e)

pub decided_solved : (b : Bool) (n : ℕ) (rows : List Row) (values : List Fraction) → InForm n rows → decided b n rows ≡ point values → Solved n values rows
decided_solved b zero rows values form e =
    let is : [] ≡ values = cc in
    subst (λ (vs : List Fraction). Solved zero vs rows) is (record {
      num = λ x. pos 0;
      d = pos 1;
      positive = omega (arith, ints);
      worth = λ x. record { positive = omega arith; value = refl };
      length_is = refl;
      holds = λ r h. absurd (none r (form r h));
    })
  where
    none : (r : Row) → IsOrdered r.terms × AllBelow zero r.terms × (is_constant r ≡ false) → ⊥
    none r f =
        let t : is_constant r ≡ true = terms_constant r (empty r.terms f.1) in
        let u : is_constant r ≡ false = f.2 in
        absurd (cc)
      where
        empty : (ts : List Term) → AllBelow zero ts → ts ≡ []
        empty [] h = refl
        empty (t ∷ ts) h = absurd (let k : t.0 < zero = h.0 in omega arith)
decided_solved b (suc v) rows values form e = by_kept (eliminated b v rows) refl e (λ next vs f g. decided_solved b v next vs f g)
  where
    Rest : Type 0
    Rest = (next : List Row) (vs : List Fraction) → InForm v next → decided b v next ≡ point vs → Solved v vs next

    by_value : (next : List Row) (vs : List Fraction) → Offered (without v rows) (combinations v (raising v rows) (lowering v rows)) next → Solved v vs next → (o : Option Fraction) → value_of b v vs rows ≡ o → with_value v vs o ≡ point values → Solved (suc v) values rows
    by_value next vs o s None g e = absurd (cc)
    by_value next vs o s (Some f) g e = let is : vs ++ f ∷ [] ≡ values = cc in subst (λ (k : List Fraction). Solved (suc v) k rows) is (step_solved b v vs rows next f form o s g)

    by_verdict : (next : List Row) → eliminated b v rows ≡ keeps next → (w : Verdict) → decided b v next ≡ w → and_value b v rows w ≡ point values → ((next : List Row) (vs : List Fraction) → InForm v next → decided b v next ≡ point vs → Solved v vs next) → Solved (suc v) values rows
    by_verdict next k (stops event) g e rest = absurd (cc)
    by_verdict next k (point vs) g e rest =
        let o = elimination b v rows next k in
        by_value next vs o (rest next vs (next_form v rows next form o) g) (value_of b v vs rows) refl e

    by_kept : (k : Kept) → eliminated b v rows ≡ k → unless_ended k (λ next. and_value b v rows (decided b v next)) ≡ point values → ((next : List Row) (vs : List Fraction) → InForm v next → decided b v next ≡ point vs → Solved v vs next) → Solved (suc v) values rows
    by_kept (keeps next) k e rest = by_verdict next k (decided b v next) refl e rest
    by_kept (ends event) k e rest = absurd (cc)

-- ---- the whole system
below_variables : (ts : List Term) → AllBelow (variables_in ts) ts
below_variables [] = tt
below_variables (t ∷ ts) = (omega arith, AllBelow-mono (variables_in ts) (variables_in (t ∷ ts)) ts (omega arith) (below_variables ts))

pub row_below : (rows : List Row) (r : Row) → In r rows → AllBelow (variables rows) r.terms
row_below [] r h = absurd h
row_below (q ∷ qs) r (inl e) = subst (λ (z : Row). AllBelow (variables (q ∷ qs)) z.terms) e (AllBelow-mono (variables_in q.terms) (variables (q ∷ qs)) q.terms (omega arith) (below_variables q.terms))
row_below (q ∷ qs) r (inr h) = AllBelow-mono (variables qs) (variables (q ∷ qs)) r.terms (omega arith) (row_below qs r h)

pub first_form : (b : Bool) (last : ℕ) (rows kept : List Row) → ((r : Row) → In r rows → IsOrdered r.terms) → keep_all b last [] rows ≡ keeps kept → InForm (variables rows) kept
first_form b last rows kept ordered e q h = by_from ((offered_of b last [] rows kept e).from q h)
  where
    by_from : In q [] ⊎ ((r : Row) × In r rows × (q ≡ normalised r) × (is_constant q ≡ false)) → IsOrdered q.terms × AllBelow (variables rows) q.terms × (is_constant q ≡ false)
    by_from (inl x) = absurd x
    by_from (inr x) =
        let m = normalised_form (variables rows) x.0 (ordered x.0 x.1) (row_below rows x.0 x.1) in
        (subst (λ (z : Row). IsOrdered z.terms) (sym x.2) m.0, subst (λ (z : Row). AllBelow (variables rows) z.terms) (sym x.2) m.1, x.3)

pub verdict_solved : (rows : List Row) (values : List Fraction) → ((r : Row) → In r rows → IsOrdered r.terms) → verdict rows ≡ point values → Solved (variables rows) values rows
unfolding verdict
verdict_solved rows values ordered e = by_kept (not (are_differences rows)) (keep_all (not (are_differences rows)) (variables rows - 1) [] rows) refl e
  where
    by_solved : (b : Bool) (kept : List Row) → Offered [] rows kept → Solved (variables rows) values kept → Solved (variables rows) values rows
    by_solved b kept o s = record {
      num = s.num;
      d = s.d;
      positive = s.positive;
      worth = s.worth;
      length_is = s.length_is;
      holds = λ r h. offered_holds s.num s.d kept r s.positive s.holds (o.new r h);
    }

    by_kept : (b : Bool) (k : Kept) → keep_all b (variables rows - 1) [] rows ≡ k → unless_ended k (λ kept. decided b (variables rows) kept) ≡ point values → Solved (variables rows) values rows
    by_kept b (ends event) k e = absurd (cc)
    by_kept b (keeps kept) k e =
        let o = offered_of b (variables rows - 1) [] rows kept k in
        by_solved b kept o (decided_solved b (variables rows) kept values (first_form b (variables rows - 1) rows kept ordered k) e)
