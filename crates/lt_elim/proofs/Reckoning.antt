-- What the code reckons of fractions.
use Rattle.std.proofs.Common.{arith, ◌≡◌, refl, sym, ◌∙◌, ap, subst, ℕ, suc, zero, ℤ, pos, ◌+ℤ◌, ◌*ℤ◌, ◌*◌, ◌/◌, ◌<◌, ◌≤◌, Bool, true, false, List, ◌∷◌, Option, Some, None, zero-mul}
use Rattle.std.specs.Prelude.{◌==◌, if◌then◌else◌, slice_index_or}
use Rattle.std.proofs.lemmas.Nat.Gcd.{le_of_dvd}
use Rattle.std.proofs.lemmas.Bool.{eqb-true}
use Rattle.lt_lin.specs.declared.row.Row.{Row}
use Rattle.lt_lin.specs.Terms.{Term, IsOrdered, factor}
use Rattle.lt_elim.specs.Divisor.{gcd_of}
use Rattle.lt_elim.specs.Fraction.{Fraction, fraction, whole, times, plus, sum_over, negated_over}
use Rattle.lt_elim.specs.Decision.{if_some, terms_added, bound}
use Rattle.lt_elim.specs.Progress.{found_factor}
use Rattle.lt_elim.specs.Reckoning.{CanPlus, CanNegate, term_added, CanAddTerm, CanAddTerms, CanBound}
use Rattle.lt_elim.proofs.KeptRows.{found_is as found_factor_is}
use Rattle.lt_elim.proofs.Divisors.{gcd_is, divisor_positive}
use Rattle.lt_elim.proofs.Ring.{exact_ℕ}

-- ---- divisors
positive_part : (u g n : ℕ) → u * g ≡ n → 0 < n → 0 < u
positive_part zero g n e h = absurd (let z : zero * g ≡ zero = zero-mul g in omega arith)
positive_part (suc u) g n e h = omega arith

pub divisor_some : (a b : ℕ) → 0 < b → 0 < gcd_of a b
divisor_some a b h = divisor_positive (gcd_of a b) b (gcd_is a b).1 h

pub divisor_bound : (a b : ℕ) → 0 < b → gcd_of a b ≤ b
divisor_bound a b h = le_of_dvd h (gcd_is a b).1

pub part_some : (a b : ℕ) → 0 < b → 0 < b / gcd_of a b
part_some a b h = positive_part (b / gcd_of a b) (gcd_of a b) b (exact_ℕ b (gcd_of a b) (gcd_is a b).1) h

pub other_some : (a b : ℕ) → 0 < a → 0 < a / gcd_of a b
other_some a b h = positive_part (a / gcd_of a b) (gcd_of a b) a (exact_ℕ a (gcd_of a b) (gcd_is a b).0) h

pub positive_product : (a b : ℕ) → 0 < a → 0 < b → 0 < a * b
positive_product (suc a) (suc b) h k = omega arith
positive_product zero b h k = absurd (omega arith)
positive_product (suc a) zero h k = absurd (omega arith)

-- ---- sums
-- the parts of a sum
pub record AreParts (e f : Fraction) (left right : ℤ) (multiple : ℕ) : Type 0 where
  pub left_is : left ≡ e.over *ℤ pos (f.under / gcd_of e.under f.under)
  pub right_is : right ≡ f.over *ℤ pos (e.under / gcd_of e.under f.under)
  pub multiple_is : multiple ≡ e.under / gcd_of e.under f.under * f.under

pub parts_are : (e f : Fraction) (g : ℕ) (left right u v : ℤ) (m : ℕ) → g ≡ gcd_of e.under f.under → u ≡ pos (f.under / g) → v ≡ pos (e.under / g) → left ≡ e.over *ℤ u → right ≡ f.over *ℤ v → m ≡ e.under / g * f.under → AreParts e f left right m
parts_are e f g left right u v m eg eu ev el er em = record {
  left_is = el ∙ ap (λ (z : ℤ). e.over *ℤ z) eu ∙ ap (λ (k : ℕ). e.over *ℤ pos (f.under / k)) eg;
  right_is = er ∙ ap (λ (z : ℤ). f.over *ℤ z) ev ∙ ap (λ (k : ℕ). f.over *ℤ pos (e.under / k)) eg;
  multiple_is = em ∙ ap (λ (k : ℕ). e.under / k * f.under) eg;
}

pub parts_sum : (limited : Bool) (e f : Fraction) (left right : ℤ) (m : ℕ) → AreParts e f left right m → sum_over limited left right m ≡ plus limited e f
parts_sum limited e f left right m p =
    ap (λ (z : ℤ). sum_over limited z right m) p.left_is
    ∙ ap (λ (z : ℤ). sum_over limited (e.over *ℤ pos (f.under / gcd_of e.under f.under)) z m) p.right_is
    ∙ ap (λ (k : ℕ). sum_over limited (e.over *ℤ pos (f.under / gcd_of e.under f.under)) (f.over *ℤ pos (e.under / gcd_of e.under f.under)) k) p.multiple_is

pub parts_total : (e f : Fraction) (left right : ℤ) (m : ℕ) → AreParts e f left right m → e.over *ℤ pos (f.under / gcd_of e.under f.under) +ℤ f.over *ℤ pos (e.under / gcd_of e.under f.under) ≡ left +ℤ right
parts_total e f left right m p = ap (λ (z : ℤ). z +ℤ f.over *ℤ pos (e.under / gcd_of e.under f.under)) (sym p.left_is) ∙ ap (λ (z : ℤ). left +ℤ z) (sym p.right_is)

-- ---- terms in turn
pub term_unfit : (limited : Bool) (v : ℕ) (values : List Fraction) (t : Term) (before f product : Fraction) → (t.0 == v) ≡ false → f ≡ slice_index_or values t.0 (whole (pos 0)) → times limited t.1 f ≡ Some product → (CanPlus before product → ⊥) → limited ≡ false → CanAddTerm v values t before → ⊥
term_unfit limited v values t before f product o e p h l can = h ((can o).1 product (ap (times false t.1) (sym e) ∙ ap (λ (b : Bool). times b t.1 f) (sym l) ∙ p))

pub step_is : (limited : Bool) (v : ℕ) (values : List Fraction) (t : Term) (ts : List Term) (before : Fraction) → terms_added limited v values (t ∷ ts) before ≡ if_some (term_added limited v values t before) (λ sum. terms_added limited v values ts sum)
step_is limited v values t ts before = by_test (t.0 == v)
  where
    nested : (o : Option Fraction) → if_some o (λ product. if_some (plus limited before product) (λ sum. terms_added limited v values ts sum)) ≡ if_some (if_some o (λ product. plus limited before product)) (λ sum. terms_added limited v values ts sum)
    nested None = refl
    nested (Some x) = refl

    by_test : (b : Bool) → (if b then terms_added limited v values ts before else if_some (times limited t.1 (slice_index_or values t.0 (whole (pos 0)))) (λ product. if_some (plus limited before product) (λ sum. terms_added limited v values ts sum))) ≡ if_some (if b then Some before else if_some (times limited t.1 (slice_index_or values t.0 (whole (pos 0)))) (λ product. plus limited before product)) (λ sum. terms_added limited v values ts sum)
    by_test true = refl
    by_test false = nested (times limited t.1 (slice_index_or values t.0 (whole (pos 0))))

-- one term further
pub step_goes : (limited : Bool) (v : ℕ) (values : List Fraction) (all : Option Fraction) (rest ts : List Term) (t : Term) (before sum : Fraction) → all ≡ terms_added limited v values rest before → rest ≡ t ∷ ts → term_added limited v values t before ≡ Some sum → all ≡ terms_added limited v values ts sum
step_goes limited v values all rest ts t before sum e r s =
    e ∙ ap (λ (x : List Term). terms_added limited v values x before) r ∙ step_is limited v values t ts before ∙ ap (λ (o : Option Fraction). if_some o (λ sum. terms_added limited v values ts sum)) s

pub step_ends : (limited : Bool) (v : ℕ) (values : List Fraction) (all : Option Fraction) (rest ts : List Term) (t : Term) (before : Fraction) → all ≡ terms_added limited v values rest before → rest ≡ t ∷ ts → term_added limited v values t before ≡ None → all ≡ None
step_ends limited v values all rest ts t before e r s =
    e ∙ ap (λ (x : List Term). terms_added limited v values x before) r ∙ step_is limited v values t ts before ∙ ap (λ (o : Option Fraction). if_some o (λ sum. terms_added limited v values ts sum)) s

pub can_step : (limited : Bool) (v : ℕ) (values : List Fraction) (rest ts : List Term) (t : Term) (before sum : Fraction) → limited ≡ false → rest ≡ t ∷ ts → term_added limited v values t before ≡ Some sum → CanAddTerms v values rest before → CanAddTerms v values ts sum
can_step limited v values rest ts t before sum l r s can =
    (subst (λ (x : List Term). CanAddTerms v values x before) r can).1 sum (ap (λ (b : Bool). term_added b v values t before) (sym l) ∙ s)

pub can_first : (v : ℕ) (values : List Fraction) (rest ts : List Term) (t : Term) (before : Fraction) → rest ≡ t ∷ ts → CanAddTerms v values rest before → CanAddTerm v values t before
can_first v values rest ts t before r can = (subst (λ (x : List Term). CanAddTerms v values x before) r can).0

pub other_variable : (x v : ℕ) → (x ≡ v → ⊥) → (x == v) ≡ false
other_variable x v o = by_test (x == v) refl
  where
    by_test : (b : Bool) → (x == v) ≡ b → b ≡ false
    by_test true e = absurd (o (eqb-true x v e))
    by_test false e = refl

-- ---- bounds
pub bound_is : (limited : Bool) (v : ℕ) (values : List Fraction) (r : Row) (us : List Term) (terms constant sum : Fraction) (f : ℤ) → us ≡ r.terms → terms_added limited v values us (whole (pos 0)) ≡ Some terms → constant ≡ whole r.constant → plus limited terms constant ≡ Some sum → f ≡ factor v r.terms → negated_over limited sum f ≡ bound limited v values r
bound_is limited v values r us terms constant sum f e t k p h =
    ap (negated_over limited sum) h
    ∙ ap (λ (o : Option Fraction). if_some o (λ s. negated_over limited s (factor v r.terms))) (sym p ∙ ap (plus limited terms) k)
    ∙ ap (λ (o : Option Fraction). if_some o (λ ts. if_some (plus limited ts (whole r.constant)) (λ s. negated_over limited s (factor v r.terms)))) (sym t ∙ ap (λ (xs : List Term). terms_added limited v values xs (whole (pos 0))) e)

unlimited_terms : (limited : Bool) (v : ℕ) (values : List Fraction) (r : Row) (us : List Term) (terms : Fraction) → limited ≡ false → us ≡ r.terms → terms_added limited v values us (whole (pos 0)) ≡ Some terms → terms_added false v values r.terms (whole (pos 0)) ≡ Some terms
unlimited_terms limited v values r us terms l e t =
    ap (λ (b : Bool). terms_added b v values r.terms (whole (pos 0))) (sym l) ∙ ap (λ (xs : List Term). terms_added limited v values xs (whole (pos 0))) (sym e) ∙ t

pub bound_unfit : (limited : Bool) (v : ℕ) (values : List Fraction) (r : Row) (us : List Term) (terms constant : Fraction) → us ≡ r.terms → terms_added limited v values us (whole (pos 0)) ≡ Some terms → constant ≡ whole r.constant → limited ≡ false → (CanPlus terms constant → ⊥) → CanBound v values r → ⊥
bound_unfit limited v values r us terms constant e t k l h can =
    h (subst (CanPlus terms) (sym k) (can.constant terms (unlimited_terms limited v values r us terms l e t)))

pub negated_unfit : (limited : Bool) (v : ℕ) (values : List Fraction) (r : Row) (us : List Term) (terms constant sum : Fraction) (f : ℤ) → us ≡ r.terms → terms_added limited v values us (whole (pos 0)) ≡ Some terms → constant ≡ whole r.constant → plus limited terms constant ≡ Some sum → f ≡ factor v r.terms → limited ≡ false → (CanNegate sum f → ⊥) → CanBound v values r → ⊥
negated_unfit limited v values r us terms constant sum f e t k p i l h can =
    h (subst (CanNegate sum) (sym i) (can.negated terms sum (unlimited_terms limited v values r us terms l e t) (ap (plus false terms) (sym k) ∙ ap (λ (b : Bool). plus b terms constant) (sym l) ∙ p)))

pub is_whole : (over : ℤ) (under : ℕ) (z : ℤ) → over ≡ z → under ≡ 1 → fraction over under ≡ whole z
is_whole over under z e u = ap (λ (x : ℤ). fraction x under) e ∙ ap (λ (n : ℕ). fraction z n) u

pub found_is : (v : ℕ) (us : List Term) (r : Row) (f : ℤ) → us ≡ r.terms → IsOrdered r.terms → f ≡ found_factor v us → f ≡ factor v r.terms
found_is v us r f e o g = g ∙ ap (found_factor v) e ∙ found_factor_is v r.terms o
