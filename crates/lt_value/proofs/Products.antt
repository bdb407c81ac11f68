-- Products of members are among the row's numbers, and the row grows with the operands.
use Rattle.std.proofs.Common.{arith, ◌≡◌, refl, sym, ◌∙◌, ap, subst, ℕ, ℤ, pos, ◌*ℤ◌, ◌≤ℤ◌, ◌-ℤ◌, ◌*◌, inl, inr, Bool, true, false}
use Rattle.std.specs.Prelude.{unsigned_abs, neg_ℤ, ◌==◌, if◌then◌else◌}
use Rattle.std.specs.Int.{◌∣◌}
use Rattle.std.proofs.lemmas.Int.{ints, by_lt_z}
use Rattle.std.proofs.lemmas.Bool.{eqb-true, eqb-false}
use Rattle.std.proofs.Math.Nat.{dvd-zero, one-dvd, mul-dvd-mul_right, eq-zero_of_zero-dvd}
use Rattle.std.proofs.Math.IntN.{*ℤ_comm}
use Rattle.lt_model.proofs.Whole.{mul-≤ℤ, neg-mul_ℤ}
use Rattle.lt_value.specs.Num.{Holds, IsBelow}
use Rattle.lt_value.specs.Entry.{IsIn, IsCongruent, written, rest_of}
use Rattle.lt_value.specs.Table.{product, product_row, product_step, product_rest, least_corner, greatest_corner}
use Rattle.lt_value.specs.declared.num.Num.{Num}
use Rattle.lt_value.proofs.Members.{lo_holds, step_divides}
use Rattle.lt_value.proofs.Entries.{member_congruent, one_member, congruent_mul, one_congruent}
use Rattle.lt_value.proofs.Corners.{IsAmid, above_least, below_greatest, least_corner_above, greatest_corner_below}
use Rattle.lt_value.proofs.Settled.{IsWider, wider_by}

amid_product : (l x h y : ℤ) → l ≤ℤ x → x ≤ℤ h → IsAmid (y *ℤ l) (y *ℤ x) (y *ℤ h)
amid_product l x h y p q =
    by_lt_z y (pos 0)
    (λ less.
    let up' : pos 0 ≤ℤ neg_ℤ y = omega (arith, ints) in
    inr (turned y x h (mul-≤ℤ x h (neg_ℤ y) up' q), turned y l x (mul-≤ℤ l x (neg_ℤ y) up' p)))
    (λ more. inl (mul-≤ℤ l x y more p, mul-≤ℤ x h y more q))
  where
    flip : (na nb a b : ℤ) → na ≡ neg_ℤ a → nb ≡ neg_ℤ b → na ≤ℤ nb → b ≤ℤ a
    flip na nb a b e f h = omega (arith, ints)

    turned : (y a b : ℤ) → (neg_ℤ y *ℤ a) ≤ℤ (neg_ℤ y *ℤ b) → (y *ℤ b) ≤ℤ (y *ℤ a)
    turned y a b h = flip (neg_ℤ y *ℤ a) (neg_ℤ y *ℤ b) (y *ℤ a) (y *ℤ b) (neg-mul_ℤ y a) (neg-mul_ℤ y b) h

amid_left : (l x h y : ℤ) → l ≤ℤ x → x ≤ℤ h → IsAmid (l *ℤ y) (x *ℤ y) (h *ℤ y)
amid_left l x h y p q =
    subst (λ (z : ℤ). IsAmid z (x *ℤ y) (h *ℤ y)) (*ℤ_comm y l) (subst (λ (z : ℤ). IsAmid (y *ℤ l) z (h *ℤ y)) (*ℤ_comm y x) (subst (λ (z : ℤ). IsAmid (y *ℤ l) (y *ℤ x) z) (*ℤ_comm y h) (amid_product l x h y p q)))

-- by single numbers
product_congruent : (a b : Num) (x y : ℤ) → Holds a x → Holds b y → IsCongruent (product_step (written a) (written b)) (product_rest (written a) (written b)) (x *ℤ y)
product_congruent a b x y p q = by_tests (b.step == 0) (a.step == 0) refl refl
  where
    by_tests : (t u : Bool) → (b.step == 0) ≡ t → (a.step == 0) ≡ u → IsCongruent (if t then a.step * unsigned_abs b.lo else (if u then b.step * unsigned_abs a.lo else 1)) (if t then rest_of a *ℤ b.lo else (if u then rest_of b *ℤ a.lo else pos 0)) (x *ℤ y)
    by_tests true u e f = subst (λ (z : ℤ). a.step * unsigned_abs b.lo ∣ unsigned_abs (x *ℤ z -ℤ rest_of a *ℤ b.lo)) (sym (one_member b y (eqb-true b.step 0 e) q)) (congruent_mul x (rest_of a) b.lo a.step (member_congruent a x p))
    by_tests false true e f = subst (λ (z : ℤ). b.step * unsigned_abs a.lo ∣ unsigned_abs (z -ℤ rest_of b *ℤ a.lo)) (*ℤ_comm y a.lo ∙ ap (λ z. z *ℤ y) (sym (one_member a x (eqb-true a.step 0 f) p))) (congruent_mul y (rest_of b) a.lo b.step (member_congruent b y q))
    by_tests false false e f = one_congruent (pos 0) (x *ℤ y)

pub product_holds : (a b : Num) (x y : ℤ) → Holds a x → Holds b y → IsIn (product_row (written a) (written b)) (x *ℤ y)
product_holds a b x y p q =
    let across : IsAmid (a.lo *ℤ y) (x *ℤ y) (a.hi *ℤ y) = amid_left a.lo x a.hi y p.above p.below in
    let low : IsAmid (a.lo *ℤ b.lo) (a.lo *ℤ y) (a.lo *ℤ b.hi) = amid_product b.lo y b.hi a.lo q.above q.below in
    let high : IsAmid (a.hi *ℤ b.lo) (a.hi *ℤ y) (a.hi *ℤ b.hi) = amid_product b.lo y b.hi a.hi q.above q.below in
    record {
      above = above_least product (written a) (written b) x y across low high;
      below = below_greatest product (written a) (written b) x y across low high;
      congruent = product_congruent a b x y p q;
    }

-- what is above a single number is not less single
pub still_single : (a c : Num) → IsBelow a c → c.step ≡ 0 → (a.step ≡ 0) × (a.lo ≡ c.lo)
still_single a c f e = (
  eq-zero_of_zero-dvd (subst (λ (k : ℕ). k ∣ a.step) e (step_divides a c f)),
  one_member c a.lo e (f a.lo (lo_holds a)),
)

pub dvd-none : (k n m : ℕ) → n ≡ 0 → k ∣ n * m
dvd-none k n m e = subst (λ (x : ℕ). k ∣ x * m) (sym e) (subst (λ (x : ℕ). k ∣ x) (none m) (dvd-zero k))
  where
    none : (m : ℕ) → 0 ≡ 0 * m
    none m = omega arith

step_grows : (a b c d : Num) → IsBelow a c → IsBelow b d → product_step (written c) (written d) ∣ product_step (written a) (written b)
step_grows a b c d f g = by_tests (d.step == 0) (c.step == 0) (b.step == 0) (a.step == 0) refl refl refl refl
  where
    by_tests : (t u v w : Bool) → (d.step == 0) ≡ t → (c.step == 0) ≡ u → (b.step == 0) ≡ v → (a.step == 0) ≡ w
        → (if t then c.step * unsigned_abs d.lo else (if u then d.step * unsigned_abs c.lo else 1)) ∣ (if v then a.step * unsigned_abs b.lo else (if w then b.step * unsigned_abs a.lo else 1))
    by_tests true u true w p q r s =
        subst (λ (k : ℤ). c.step * unsigned_abs d.lo ∣ a.step * unsigned_abs k) (sym (still_single b d g (eqb-true d.step 0 p)).1) (mul-dvd-mul_right c.step (step_divides a c f) (unsigned_abs d.lo))
    by_tests true u false w p q r s = absurd (eqb-false b.step 0 r (still_single b d g (eqb-true d.step 0 p)).0)
    by_tests false true true w p q r s = dvd-none (d.step * unsigned_abs c.lo) a.step (unsigned_abs b.lo) (still_single a c f (eqb-true c.step 0 q)).0
    by_tests false true false true p q r s =
        subst (λ (k : ℤ). d.step * unsigned_abs c.lo ∣ b.step * unsigned_abs k) (sym (still_single a c f (eqb-true c.step 0 q)).1) (mul-dvd-mul_right d.step (step_divides b d g) (unsigned_abs c.lo))
    by_tests false true false false p q r s = absurd (eqb-false a.step 0 s (still_single a c f (eqb-true c.step 0 q)).0)
    by_tests false false v w p q r s = one-dvd (if v then a.step * unsigned_abs b.lo else (if w then b.step * unsigned_abs a.lo else 1))

pub product_wider : (a b c d : Num) → IsBelow a c → IsBelow b d → IsWider (product_row (written a) (written b)) (product_row (written c) (written d))
product_wider a b c d f g =
    wider_by (product_row (written a) (written b)) (product_row (written c) (written d)) (a.lo *ℤ b.lo)
    (least_corner_above product a b (least_corner product (written c) (written d)) (λ x y p q. (product_holds c d x y (f x p) (g y q)).above))
    (greatest_corner_below product a b (greatest_corner product (written c) (written d)) (λ x y p q. (product_holds c d x y (f x p) (g y q)).below))
    (step_grows a b c d f g)
    (product_holds a b a.lo b.lo (lo_holds a) (lo_holds b)).congruent
    (product_holds c d a.lo b.lo (f a.lo (lo_holds a)) (g b.lo (lo_holds b))).congruent
