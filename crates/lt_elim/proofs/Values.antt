-- What the fractions of a point are worth, over a common denominator.
use Rattle.std.proofs.Common.{arith, ◌≡◌, refl, sym, ◌∙◌, ap, subst, ℕ, suc, zero, ℤ, pos, negsuc, ◌+ℤ◌, ◌*ℤ◌, ◌≤ℤ◌, ◌+◌, ◌*◌, ◌/◌, ◌<◌, Bool, true, false, ◌&&◌, ◌||◌, List, [], ◌∷◌, Option, Some, None, zero-mul}
use Rattle.std.specs.Prelude.{neg_ℤ, unsigned_abs, int_lt, if◌then◌else◌, ◌==◌, slice_index_or}
use Rattle.std.specs.Int.{◌∣◌}
use Rattle.std.proofs.lemmas.Int.{ints}
use Rattle.std.proofs.lemmas.Bool.{eqb-true}
use Rattle.std.proofs.Math.IntN.{*ℤ_comm}
use borrow.Author.Differences.{up, down, same_in, product_is}
use Rattle.lt_model.proofs.Whole.{mul_assoc_ℤ, add-mul_ℤ, neg-mul_ℤ, abs_up, abs_down}
use Rattle.lt_lin.specs.declared.row.Row.{Row}
use Rattle.lt_lin.specs.Terms.{Term, factor, sum_at}
use Rattle.lt_elim.specs.Divisor.{gcd_of, quotient, passes}
use Rattle.lt_elim.specs.Fraction.{Fraction, fraction, whole, limited_to, times, reduced_by, reduced, sum_over, plus_by, plus, negated_over}
use Rattle.lt_elim.specs.Decision.{if_some, terms_added, bound}
use Rattle.lt_elim.proofs.Divisors.{gcd_is, divisor_positive}
use Rattle.lt_elim.proofs.Ring.{cancelled, exact_ℕ, exact_ℤ, swap_right}

up_product : (a b : ℤ) → up (a *ℤ b) ≡ up a * up b + down a * down b
up_product a b = (product_is a b).0

down_product : (a b : ℤ) → down (a *ℤ b) ≡ up a * down b + down a * up b
down_product a b = (product_is a b).1

-- the fraction is n over d
pub record IsWorth (f : Fraction) (n d : ℤ) : Type 0 where
  pub positive : 0 < f.under
  pub value : n *ℤ pos f.under ≡ f.over *ℤ d

limited_is : (b : Bool) (f h : Fraction) → limited_to b f ≡ Some h → f ≡ h
limited_is b f h e = by_test (b && (passes f.over || passes (pos f.under))) e
  where
    by_test : (t : Bool) → (if t then None else Some f) ≡ Some h → f ≡ h
    by_test true e = absurd (cc)
    by_test false e = cc

positive_part : (u g n : ℕ) → u * g ≡ n → 0 < n → 0 < u
positive_part zero g n e h = absurd (let z : zero * g ≡ zero = zero-mul g in omega arith)
positive_part (suc u) g n e h = omega arith

-- ---- products
times_by_worth : (a : ℤ) (f : Fraction) (g : ℕ) (n d : ℤ) → g ∣ unsigned_abs a → g ∣ f.under → IsWorth f n d → IsWorth (fraction (quotient a g *ℤ f.over) (f.under / g)) (a *ℤ n) d
times_by_worth a f g n d ga gf w = record { positive = positive_part u g f.under u_is w.positive; value = value }
  where
    u : ℕ
    u = f.under / g

    q : ℤ
    q = quotient a g

    u_is : u * g ≡ f.under
    u_is = exact_ℕ f.under g gf

    q_is : pos g *ℤ q ≡ a
    q_is = exact_ℤ a g (divisor_positive g f.under gf w.positive) ga

    regroup : (x y z t : ℤ) → x *ℤ y *ℤ z *ℤ t ≡ y *ℤ (z *ℤ (t *ℤ x))
    regroup x y z t = same_in (x *ℤ y *ℤ z *ℤ t) (y *ℤ (z *ℤ (t *ℤ x))) (simp (up_product, down_product) (omega arith))

    value : a *ℤ n *ℤ pos u ≡ q *ℤ f.over *ℤ d
    value =
        ap (λ (z : ℤ). z *ℤ n *ℤ pos u) (sym q_is)
        ∙ regroup (pos g) q n (pos u)
        ∙ ap (λ (k : ℕ). q *ℤ (n *ℤ pos k)) u_is
        ∙ ap (λ (z : ℤ). q *ℤ z) w.value
        ∙ sym (mul_assoc_ℤ q f.over d)

pub times_worth : (b : Bool) (a : ℤ) (f h : Fraction) (n d : ℤ) → IsWorth f n d → times b a f ≡ Some h → IsWorth h (a *ℤ n) d
times_worth b a f h n d w e =
    let g = gcd_is (unsigned_abs a) f.under in
    subst (λ (x : Fraction). IsWorth x (a *ℤ n) d) (limited_is b (fraction (quotient a (gcd_of (unsigned_abs a) f.under) *ℤ f.over) (f.under / gcd_of (unsigned_abs a) f.under)) h e) (times_by_worth a f (gcd_of (unsigned_abs a) f.under) n d g.0 g.1 w)

-- ---- sums
reduced_by_worth : (p : ℤ) (q g : ℕ) (n d : ℤ) → g ∣ unsigned_abs p → g ∣ q → 0 < q → n *ℤ pos q ≡ p *ℤ d → IsWorth (reduced_by g p q) n d
reduced_by_worth p q g n d gp gq some e = record { positive = positive_part v g q v_is some; value = cancelled (pos g) (n *ℤ pos v) (r *ℤ d) (omega (arith, ints, g_some)) scaled }
  where
    v : ℕ
    v = q / g

    r : ℤ
    r = quotient p g

    v_is : v * g ≡ q
    v_is = exact_ℕ q g gq

    g_some : 0 < g
    g_some = divisor_positive g q gq some

    r_is : pos g *ℤ r ≡ p
    r_is = exact_ℤ p g g_some gp

    regroup : (x y z : ℤ) → x *ℤ (y *ℤ z) ≡ y *ℤ (z *ℤ x)
    regroup x y z = same_in (x *ℤ (y *ℤ z)) (y *ℤ (z *ℤ x)) (simp (up_product, down_product) (omega arith))

    scaled : pos g *ℤ (n *ℤ pos v) ≡ pos g *ℤ (r *ℤ d)
    scaled =
        regroup (pos g) n (pos v)
        ∙ ap (λ (k : ℕ). n *ℤ pos k) v_is
        ∙ e
        ∙ ap (λ (z : ℤ). z *ℤ d) (sym r_is)
        ∙ mul_assoc_ℤ (pos g) r d

reduced_worth : (p : ℤ) (q : ℕ) (n d : ℤ) → 0 < q → n *ℤ pos q ≡ p *ℤ d → IsWorth (reduced p q) n d
reduced_worth p q n d some e =
    let g = gcd_is (unsigned_abs p) q in
    reduced_by_worth p q (gcd_of (unsigned_abs p) q) n d g.0 g.1 some e

sum_is : (b : Bool) (p q : ℤ) (m : ℕ) (h : Fraction) → sum_over b p q m ≡ Some h → reduced (p +ℤ q) m ≡ h
sum_is b p q m h e = by_test (b && (passes (pos m) || passes p || passes q || passes (p +ℤ q))) e
  where
    by_test : (t : Bool) → (if t then None else Some (reduced (p +ℤ q) m)) ≡ Some h → reduced (p +ℤ q) m ≡ h
    by_test true e = absurd (cc)
    by_test false e = cc

positive_product : (a b : ℕ) → 0 < a → 0 < b → 0 < a * b
positive_product (suc a) (suc b) h k = omega arith
positive_product zero b h k = absurd (omega arith)
positive_product (suc a) zero h k = absurd (omega arith)

plus_by_worth : (b : Bool) (e f h : Fraction) (g : ℕ) (n m d : ℤ) → g ∣ e.under → g ∣ f.under → IsWorth e n d → IsWorth f m d → plus_by g b e f ≡ Some h → IsWorth h (n +ℤ m) d
plus_by_worth b e f h g n m d ge gf we wf is =
    subst (λ (x : Fraction). IsWorth x (n +ℤ m) d) (sum_is b (e.over *ℤ pos u) (f.over *ℤ pos t) (t * f.under) h is)
    (reduced_worth (e.over *ℤ pos u +ℤ f.over *ℤ pos t) (t * f.under) (n +ℤ m) d (positive_product t f.under (positive_part t g e.under t_is we.positive) wf.positive) total)
  where
    t : ℕ
    t = e.under / g

    u : ℕ
    u = f.under / g

    t_is : t * g ≡ e.under
    t_is = exact_ℕ e.under g ge

    u_is : u * g ≡ f.under
    u_is = exact_ℕ f.under g gf

    regroup : (x y z k : ℤ) → x *ℤ (y *ℤ (z *ℤ k)) ≡ x *ℤ (y *ℤ k) *ℤ z
    regroup x y z k = same_in (x *ℤ (y *ℤ (z *ℤ k))) (x *ℤ (y *ℤ k) *ℤ z) (simp (up_product, down_product) (omega arith))

    regroup' : (x y z : ℤ) → x *ℤ (y *ℤ z) ≡ x *ℤ z *ℤ y
    regroup' x y z = same_in (x *ℤ (y *ℤ z)) (x *ℤ z *ℤ y) (simp (up_product, down_product) (omega arith))

    left : n *ℤ pos (t * f.under) ≡ e.over *ℤ pos u *ℤ d
    left =
        ap (λ (k : ℕ). n *ℤ pos (t * k)) (sym u_is)
        ∙ regroup n (pos t) (pos u) (pos g)
        ∙ ap (λ (k : ℕ). n *ℤ pos k *ℤ pos u) t_is
        ∙ ap (λ (z : ℤ). z *ℤ pos u) we.value
        ∙ swap_right e.over d (pos u)

    right : m *ℤ pos (t * f.under) ≡ f.over *ℤ pos t *ℤ d
    right =
        regroup' m (pos t) (pos f.under)
        ∙ ap (λ (z : ℤ). z *ℤ pos t) wf.value
        ∙ swap_right f.over d (pos t)

    total : (n +ℤ m) *ℤ pos (t * f.under) ≡ (e.over *ℤ pos u +ℤ f.over *ℤ pos t) *ℤ d
    total = add-mul_ℤ n m (pos (t * f.under)) ∙ ap (λ (z : ℤ). z +ℤ m *ℤ pos (t * f.under)) left ∙ ap (λ (z : ℤ). e.over *ℤ pos u *ℤ d +ℤ z) right ∙ sym (add-mul_ℤ (e.over *ℤ pos u) (f.over *ℤ pos t) d)

pub plus_worth : (b : Bool) (e f h : Fraction) (n m d : ℤ) → IsWorth e n d → IsWorth f m d → plus b e f ≡ Some h → IsWorth h (n +ℤ m) d
plus_worth b e f h n m d we wf is =
    let g = gcd_is e.under f.under in
    plus_by_worth b e f h (gcd_of e.under f.under) n m d g.0 g.1 we wf is

-- ---- a bound
-- The fraction times a, over d, is n negated.
pub record IsNegatedOver (h : Fraction) (a n d : ℤ) : Type 0 where
  pub positive : 0 < h.under
  pub value : h.over *ℤ (a *ℤ d) ≡ neg_ℤ (n *ℤ pos h.under)

abs_positive : (a : ℤ) → (a ≡ pos 0 → ⊥) → 0 < unsigned_abs a
abs_positive (pos zero) h = absurd (h refl)
abs_positive (pos (suc n)) h = omega arith
abs_positive (negsuc n) h = omega arith

negated_by_worth : (f : Fraction) (a : ℤ) (g : ℕ) (n d : ℤ) → g ∣ unsigned_abs f.over → g ∣ unsigned_abs a → (a ≡ pos 0 → ⊥) → IsWorth f n d → IsNegatedOver (fraction (if int_lt (pos 0) a then neg_ℤ (quotient f.over g) else quotient f.over g) (f.under * (unsigned_abs a / g))) a n d
negated_by_worth f a g n d go ga some w = record { positive = positive_product f.under b w.positive (positive_part b g (unsigned_abs a) b_is (abs_positive a some)); value = value }
  where
    o : ℤ
    o = quotient f.over g

    b : ℕ
    b = unsigned_abs a / g

    b_is : b * g ≡ unsigned_abs a
    b_is = exact_ℕ (unsigned_abs a) g ga

    o_is : pos g *ℤ o ≡ f.over
    o_is = exact_ℤ f.over g (divisor_positive g (unsigned_abs a) ga (abs_positive a some)) go

    regroup : (x y z k : ℤ) → x *ℤ (y *ℤ z *ℤ k) ≡ z *ℤ x *ℤ k *ℤ y
    regroup x y z k = same_in (x *ℤ (y *ℤ z *ℤ k)) (z *ℤ x *ℤ k *ℤ y) (simp (up_product, down_product) (omega arith))

    size : o *ℤ (pos (unsigned_abs a) *ℤ d) ≡ n *ℤ pos (f.under * b)
    size =
        ap (λ (k : ℕ). o *ℤ (pos k *ℤ d)) (sym b_is)
        ∙ regroup o (pos b) (pos g) d
        ∙ ap (λ (z : ℤ). z *ℤ d *ℤ pos b) o_is
        ∙ ap (λ (z : ℤ). z *ℤ pos b) (sym w.value)
        ∙ mul_assoc_ℤ n (pos f.under) (pos b)

    times_neg : (x y : ℤ) → x *ℤ neg_ℤ y ≡ neg_ℤ (x *ℤ y)
    times_neg x y = *ℤ_comm x (neg_ℤ y) ∙ neg-mul_ℤ y x ∙ ap neg_ℤ (*ℤ_comm y x)

    more : (z : ℤ) → int_lt (pos 0) z ≡ true → pos 0 ≤ℤ z
    more z e = grind (arith, ints)

    less : (z : ℤ) → int_lt (pos 0) z ≡ false → z ≤ℤ pos 0
    less z e = grind (arith, ints)

    twice : (x y : ℤ) → y ≡ neg_ℤ x → x ≡ neg_ℤ y
    twice x y e = omega (arith, ints)

    by_test : (t : Bool) → int_lt (pos 0) a ≡ t → (if t then neg_ℤ o else o) *ℤ (a *ℤ d) ≡ neg_ℤ (n *ℤ pos (f.under * b))
    by_test true e =
        neg-mul_ℤ o (a *ℤ d)
        ∙ ap (λ (z : ℤ). neg_ℤ (o *ℤ (z *ℤ d))) (sym (abs_up a (more a e)))
        ∙ ap neg_ℤ size
    by_test false e =
        ap (λ (z : ℤ). o *ℤ (z *ℤ d)) (twice a (pos (unsigned_abs a)) (abs_down a (less a e)))
        ∙ ap (λ (z : ℤ). o *ℤ z) (neg-mul_ℤ (pos (unsigned_abs a)) d)
        ∙ times_neg o (pos (unsigned_abs a) *ℤ d)
        ∙ ap neg_ℤ size

    value : (if int_lt (pos 0) a then neg_ℤ o else o) *ℤ (a *ℤ d) ≡ neg_ℤ (n *ℤ pos (f.under * b))
    value = by_test (int_lt (pos 0) a) refl

negated_worth : (b : Bool) (f h : Fraction) (a n d : ℤ) → (a ≡ pos 0 → ⊥) → IsWorth f n d → negated_over b f a ≡ Some h → IsNegatedOver h a n d
negated_worth b f h a n d some w e =
    let g = gcd_is (unsigned_abs f.over) (unsigned_abs a) in
    let c : ℕ = gcd_of (unsigned_abs f.over) (unsigned_abs a) in
    subst (λ (x : Fraction). IsNegatedOver x a n d) (limited_is b (fraction (if int_lt (pos 0) a then neg_ℤ (quotient f.over c) else quotient f.over c) (f.under * (unsigned_abs a / c))) h e) (negated_by_worth f a c n d g.0 g.1 some w)

-- ---- the other terms of a row, and its bound
-- each value of the point, over d
abbrev pub AreWorth : List Fraction → (ℕ → ℤ) → ℤ → Type 0
AreWorth values num d = (x : ℕ) → IsWorth (slice_index_or values x (whole (pos 0))) (num x) d

-- what a row's terms and constant come to, over d
abbrev pub total : (ℕ → ℤ) → ℤ → Row → ℤ
total num d r = sum_at num r.terms +ℤ r.constant *ℤ d

pub if_some_is : {A B : Type 0} (o : Option A) (next : A → Option B) (h : B) → if_some o next ≡ Some h → (x : A) × (o ≡ Some x) × (next x ≡ Some h)
if_some_is None next h e = absurd (cc)
if_some_is (Some x) next h e = (x, refl, e)

added_worth : (b : Bool) (v : ℕ) (values : List Fraction) (num : ℕ → ℤ) (d : ℤ) (ts : List Term) (before h : Fraction) (m : ℤ) → AreWorth values num d → num v ≡ pos 0 → IsWorth before m d → terms_added b v values ts before ≡ Some h → IsWorth h (m +ℤ sum_at num ts) d
added_worth b v values num d [] before h m ws z w e = subst (λ (k : ℤ). IsWorth h k d) (nothing m) (let is : before ≡ h = cc in subst (λ (x : Fraction). IsWorth x m d) is w)
  where
    nothing : (k : ℤ) → k ≡ k +ℤ pos 0
    nothing k = omega (arith, ints)
added_worth b v values num d (t ∷ ts) before h m ws z w e = by_test (t.0 == v) refl e (λ f k wf g. added_worth b v values num d ts f h k ws z wf g)
  where
    skipped : (a s k : ℤ) → a ≡ pos 0 → k +ℤ s ≡ k +ℤ (a +ℤ s)
    skipped a s k e = omega (arith, ints)

    joined : (a s k : ℤ) → (k +ℤ a) +ℤ s ≡ k +ℤ (a +ℤ s)
    joined a s k = omega (arith, ints)

    times_nothing : (a : ℤ) → a *ℤ pos 0 ≡ pos 0
    times_nothing a = omega (arith, ints)

    by_test : (c : Bool) → (t.0 == v) ≡ c → (if c then terms_added b v values ts before else if_some (times b t.1 (slice_index_or values t.0 (whole (pos 0)))) (λ product. if_some (plus b before product) (λ sum. terms_added b v values ts sum))) ≡ Some h → ((f : Fraction) (k : ℤ) → IsWorth f k d → terms_added b v values ts f ≡ Some h → IsWorth h (k +ℤ sum_at num ts) d) → IsWorth h (m +ℤ (t.1 *ℤ num t.0 +ℤ sum_at num ts)) d
    by_test true c e rest =
        let is : num t.0 ≡ pos 0 = ap num (eqb-true t.0 v c) ∙ z in
        subst (λ (k : ℤ). IsWorth h k d) (skipped (t.1 *ℤ num t.0) (sum_at num ts) m (ap (λ (k : ℤ). t.1 *ℤ k) is ∙ times_nothing t.1)) (rest before m w e)
    by_test false c e rest =
        let p = if_some_is (times b t.1 (slice_index_or values t.0 (whole (pos 0)))) (λ product. if_some (plus b before product) (λ sum. terms_added b v values ts sum)) h e in
        let s = if_some_is (plus b before p.0) (λ sum. terms_added b v values ts sum) h p.2 in
        let wp = times_worth b t.1 (slice_index_or values t.0 (whole (pos 0))) p.0 (num t.0) d (ws t.0) p.1 in
        let wsum = plus_worth b before p.0 s.0 m (t.1 *ℤ num t.0) d w wp s.1 in
        subst (λ (k : ℤ). IsWorth h k d) (joined (t.1 *ℤ num t.0) (sum_at num ts) m) (rest s.0 (m +ℤ t.1 *ℤ num t.0) wsum s.2)

pub bound_worth : (b : Bool) (v : ℕ) (values : List Fraction) (num : ℕ → ℤ) (d : ℤ) (r : Row) (h : Fraction) → AreWorth values num d → num v ≡ pos 0 → (factor v r.terms ≡ pos 0 → ⊥) → bound b v values r ≡ Some h → IsNegatedOver h (factor v r.terms) (total num d r) d
bound_worth b v values num d r h ws z some e =
    let s = if_some_is (terms_added b v values r.terms (whole (pos 0))) (λ terms. if_some (plus b terms (whole r.constant)) (λ sum. negated_over b sum (factor v r.terms))) h e in
    let p = if_some_is (plus b s.0 (whole r.constant)) (λ sum. negated_over b sum (factor v r.terms)) h s.2 in
    let wz : IsWorth (whole (pos 0)) (pos 0) d = record { positive = omega arith; value = nothing d } in
    let wc : IsWorth (whole r.constant) (r.constant *ℤ d) d = record { positive = omega arith; value = once (r.constant *ℤ d) } in
    let wt = added_worth b v values num d r.terms (whole (pos 0)) s.0 (pos 0) ws z wz s.1 in
    let wp = plus_worth b s.0 (whole r.constant) p.0 (pos 0 +ℤ sum_at num r.terms) (r.constant *ℤ d) d wt wc p.1 in
    negated_worth b p.0 h (factor v r.terms) (total num d r) d some (subst (λ (k : ℤ). IsWorth p.0 k d) (left (sum_at num r.terms) (r.constant *ℤ d)) wp) p.2
  where
    nothing : (k : ℤ) → pos 0 *ℤ pos 1 ≡ pos 0 *ℤ k
    nothing k = omega (arith, ints)

    once : (k : ℤ) → k *ℤ pos 1 ≡ k
    once k = omega (arith, ints)

    left : (a c : ℤ) → (pos 0 +ℤ a) +ℤ c ≡ a +ℤ c
    left a c = omega (arith, ints)
