-- Numbers that are congruent, and the greatest common divisor.
use Rattle.std.proofs.Common.{arith, ◌≡◌, refl, sym, ◌∙◌, ap, subst, ℕ, ℤ, pos, negsuc, suc, zero, ◌+ℤ◌, ◌-ℤ◌, ◌*ℤ◌, ◌+◌, ◌-◌, ◌*◌, ◌%◌, ◌<◌, inl, inr, Bool, true, false}
use Rattle.std.specs.Prelude.{unsigned_abs, neg_ℤ, ◌==◌, if◌then◌else◌}
use Rattle.std.specs.Int.{◌∣◌, int_rem_euclid, IsGcd}
use Rattle.std.proofs.lemmas.Int.{ints, by_lt_z, unsigned_abs-mul}
use Rattle.std.proofs.lemmas.Bool.{eqb-true, eqb-false, eq-eqb}
use Rattle.std.proofs.lemmas.Nat.Gcd.{IsGcd-from_zero, IsGcd-from_mod, same_from_IsGcd}
use Rattle.std.proofs.Math.Nat.{dvd-zero, dvd_trans, dvd-add, dvd-sub, one-dvd, mod-lt, mod-eq_of_lt, pos_of_ne-zero, mul-dvd-mul_right, eq-zero-or-pos}
use Rattle.std.proofs.Math.Dec.{eqb-suc-zero}
use Rattle.lt_model.proofs.Whole.{abs_up, abs_down, add-mul_ℤ, neg-mul_ℤ}
use Rattle.lt_value.specs.Num.{Holds}
use Rattle.lt_value.specs.Entry.{IsCongruent, gcd_by, gcd_of, rest_of}
use Rattle.lt_value.specs.declared.num.Num.{Num}
use Rattle.lt_value.proofs.Congruent.{dvd_from_rests}

-- ---- the greatest common divisor
gcd_by_is : (fuel a b : ℕ) → b < fuel → IsGcd a b (gcd_by fuel a b)
gcd_by_is zero a b h = absurd (omega arith)
gcd_by_is (suc fuel) a b h = by_test (b == 0) refl (λ some. gcd_by_is fuel b (a % b) (omega (arith, mod-lt a some)))
  where
    by_test : (t : Bool) → (b == 0) ≡ t → (0 < b → IsGcd b (a % b) (gcd_by fuel b (a % b))) → IsGcd a b (if t then a else gcd_by fuel b (a % b))
    by_test true e next = IsGcd-from_zero a b (eqb-true b 0 e)
    by_test false e next =
        let some : 0 < b = pos_of_ne-zero (eqb-false b 0 e) in
        IsGcd-from_mod a b (gcd_by fuel b (a % b)) (next some)

pub IsGcd-gcd_of : (a b : ℕ) → IsGcd a b (gcd_of a b)
unfolding gcd_of
IsGcd-gcd_of a b = gcd_by_is (suc b) a b (omega arith)

pub gcd_is : (a b g : ℕ) → IsGcd a b g → g ≡ gcd_of a b
gcd_is a b g h = same_from_IsGcd a b g (gcd_of a b) h (IsGcd-gcd_of a b)

-- what divides both sides divides the other's
pub gcd_divides : (a b c d : ℕ) → a ∣ c → b ∣ d → gcd_of a b ∣ gcd_of c d
gcd_divides a b c d p q =
    let g : IsGcd a b (gcd_of a b) = IsGcd-gcd_of a b in
    (IsGcd-gcd_of c d).2 (gcd_of a b) (dvd_trans (gcd_of a b) g.0 p) (dvd_trans (gcd_of a b) g.1 q)

-- ---- congruence
pub congruent_from_rests : (s : ℕ) (x y : ℤ) → 0 < s → int_rem_euclid x (pos s) ≡ int_rem_euclid y (pos s) → s ∣ unsigned_abs (x -ℤ y)
congruent_from_rests s x y some e =
    by_lt_z x y
    (λ less. dvd_from_rests s (unsigned_abs (x -ℤ y)) x y some (omega (arith, ints, abs_down (x -ℤ y) (omega (arith, ints)))) e)
    (λ more. dvd_from_rests s (unsigned_abs (x -ℤ y)) y x some (omega (arith, ints, abs_up (x -ℤ y) (omega (arith, ints)))) (sym e))

pub rest_of-single : (n : Num) → n.step ≡ 0 → rest_of n ≡ n.lo
rest_of-single n e = rw (eq-eqb n.step 0 e) refl

rest_of-several : (n : Num) → 0 < n.step → rest_of n ≡ pos n.rest
rest_of-several n some = rw (eqb_no n.step some) refl
  where
    eqb_no : (k : ℕ) → 0 < k → (k == 0) ≡ false
    eqb_no zero h = absurd (omega arith)
    eqb_no (suc k) h = eqb-suc-zero k

pub one_member : (n : Num) (z : ℤ) → n.step ≡ 0 → Holds n z → z ≡ n.lo
one_member n z e h = omega (arith, ints, n.canonical.one_low e, h.above, h.below)

-- a member is congruent to the rest
pub member_congruent : (n : Num) (z : ℤ) → Holds n z → IsCongruent n.step (rest_of n) z
member_congruent n z h = elim (eq-zero-or-pos n.step) [
  | inl none ↦
      let is : unsigned_abs (z -ℤ rest_of n) ≡ 0 = ap unsigned_abs (nothing z (rest_of n) (one_member n z none h ∙ sym (rest_of-single n none))) in
      subst (λ (k : ℕ). n.step ∣ k) (sym is) (dvd-zero n.step)
  | inr some ↦
      let small : n.rest < n.step = n.canonical.rest_below some in
      let same : int_rem_euclid z (pos n.step) ≡ int_rem_euclid (pos n.rest) (pos n.step) = h.leaves some ∙ ap pos (sym (mod-eq_of_lt small)) in
      subst (λ (r : ℤ). n.step ∣ unsigned_abs (z -ℤ r)) (sym (rest_of-several n some)) (congruent_from_rests n.step z (pos n.rest) some same)
]
  where
    nothing : (x y : ℤ) → x ≡ y → x -ℤ y ≡ pos 0
    nothing x y e = omega (arith, ints)

-- sums and differences of what a step divides
pub dvd-abs-add : (s : ℕ) (x y : ℤ) → s ∣ unsigned_abs x → s ∣ unsigned_abs y → s ∣ unsigned_abs (x +ℤ y)
dvd-abs-add s (pos a) (pos b) p q = dvd-add s p q
dvd-abs-add s (pos a) (negsuc b) p q =
    let is : (a - suc b) + (suc b - a) ≡ unsigned_abs (pos a +ℤ negsuc b) = omega (arith, ints) in
    subst (λ (k : ℕ). s ∣ k) is (dvd-add s (dvd-sub s p q) (dvd-sub s q p))
dvd-abs-add s (negsuc a) (pos b) p q =
    let is : (b - suc a) + (suc a - b) ≡ unsigned_abs (negsuc a +ℤ pos b) = omega (arith, ints) in
    subst (λ (k : ℕ). s ∣ k) is (dvd-add s (dvd-sub s q p) (dvd-sub s p q))
dvd-abs-add s (negsuc a) (negsuc b) p q =
    let is : suc a + suc b ≡ unsigned_abs (negsuc a +ℤ negsuc b) = omega (arith, ints) in
    subst (λ (k : ℕ). s ∣ k) is (dvd-add s p q)

pub dvd-abs-sub : (s : ℕ) (x y : ℤ) → s ∣ unsigned_abs x → s ∣ unsigned_abs y → s ∣ unsigned_abs (x -ℤ y)
dvd-abs-sub s x (pos zero) p q = dvd-abs-add s x (pos zero) p q
dvd-abs-sub s x (pos (suc n)) p q = dvd-abs-add s x (negsuc n) p q
dvd-abs-sub s x (negsuc n) p q = dvd-abs-add s x (pos (suc n)) p q

pub IsCongruent-same : (s : ℕ) (x y : ℤ) → x ≡ y → IsCongruent s y x
IsCongruent-same s x y e =
    let is : unsigned_abs (x -ℤ y) ≡ 0 = ap unsigned_abs (nothing x y e) in
    subst (λ (k : ℕ). s ∣ k) (sym is) (dvd-zero s)
  where
    nothing : (x y : ℤ) → x ≡ y → x -ℤ y ≡ pos 0
    nothing x y e = omega (arith, ints)

pub IsCongruent-sym : (s : ℕ) (x y : ℤ) → IsCongruent s x y → IsCongruent s y x
IsCongruent-sym s x y d = subst (λ (z : ℤ). s ∣ unsigned_abs z) (turned x y) (dvd-abs-sub s (pos 0) (y -ℤ x) (dvd-zero s) d)
  where
    turned : (x y : ℤ) → pos 0 -ℤ (y -ℤ x) ≡ x -ℤ y
    turned x y = omega (arith, ints)

pub IsCongruent-trans : (s : ℕ) (x y z : ℤ) → IsCongruent s x y → IsCongruent s y z → IsCongruent s x z
IsCongruent-trans s x y z d e = subst (λ (k : ℤ). s ∣ unsigned_abs k) (joined x y z) (dvd-abs-add s (y -ℤ x) (z -ℤ y) d e)
  where
    joined : (x y z : ℤ) → (y -ℤ x) +ℤ (z -ℤ y) ≡ z -ℤ x
    joined x y z = omega (arith, ints)

-- by a step that divides, and from another rest
pub congruent_by : (s t : ℕ) (r q z : ℤ) → t ∣ s → IsCongruent t q r → IsCongruent s r z → IsCongruent t q z
congruent_by s t r q z d e h = IsCongruent-trans t q r z e (dvd_trans t d h)

pub congruent_add : (s : ℕ) (x y r q : ℤ) → IsCongruent s r x → IsCongruent s q y → IsCongruent s (r +ℤ q) (x +ℤ y)
congruent_add s x y r q d e = subst (λ (z : ℤ). s ∣ unsigned_abs z) (regroup x y r q) (dvd-abs-add s (x -ℤ r) (y -ℤ q) d e)
  where
    regroup : (x y r q : ℤ) → (x -ℤ r) +ℤ (y -ℤ q) ≡ (x +ℤ y) -ℤ (r +ℤ q)
    regroup x y r q = omega (arith, ints)

pub congruent_sub : (s : ℕ) (x y r q : ℤ) → IsCongruent s r x → IsCongruent s q y → IsCongruent s (r -ℤ q) (x -ℤ y)
congruent_sub s x y r q d e = subst (λ (z : ℤ). s ∣ unsigned_abs z) (regroup x y r q) (dvd-abs-sub s (x -ℤ r) (y -ℤ q) d e)
  where
    regroup : (x y r q : ℤ) → (x -ℤ r) -ℤ (y -ℤ q) ≡ (x -ℤ y) -ℤ (r -ℤ q)
    regroup x y r q = omega (arith, ints)

-- what two products by one number are apart
pub congruent_mul : (x r k : ℤ) (s : ℕ) → IsCongruent s r x → IsCongruent (s * unsigned_abs k) (r *ℤ k) (x *ℤ k)
congruent_mul x r k s d =
    let is : (x -ℤ r) *ℤ k ≡ x *ℤ k -ℤ r *ℤ k = add-mul_ℤ x (neg_ℤ r) k ∙ ap (λ z. x *ℤ k +ℤ z) (neg-mul_ℤ r k) in
    subst (λ (n : ℕ). s * unsigned_abs k ∣ n) (sym (unsigned_abs-mul (x -ℤ r) k) ∙ ap unsigned_abs is) (mul-dvd-mul_right s d (unsigned_abs k))

pub one_congruent : (r z : ℤ) → IsCongruent 1 r z
one_congruent r z = one-dvd (unsigned_abs (z -ℤ r))
