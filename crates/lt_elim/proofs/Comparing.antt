-- One ratio is compared with another by whole parts and rests.
use Rattle.std.proofs.Common.{arith, ◌≡◌, sym, ◌∙◌, ap, ℕ, suc, ◌+◌, ◌*◌, ◌/◌, ◌%◌, ◌<◌, ◌≤◌, ◌⊎◌, inl, inr, true, false, suc-mul, mul_comm}
use Rattle.std.specs.Prelude.{nat_lt, nat_le}
use Rattle.std.proofs.Math.Nat.{div-add-mod, lt-div-mul-add, div-mul-le_self, mul-le-mul_right, add-mul, mul_assoc}
use Rattle.std.proofs.lemmas.Bool.{cases_lt}

last_two : (x y z : ℕ) → x * y * z ≡ x * z * y
last_two x y z = mul_assoc x y z ∙ ap (λ (k : ℕ). x * k) (mul_comm y z) ∙ sym (mul_assoc x z y)

-- a lesser whole part makes the lesser ratio
whole_less : (a b c d : ℕ) → 0 < b → 0 < d → a / b < c / d → a * d < c * b
whole_less a b c d pb pd l =
    let p : suc a ≤ c / d * b = within (a / b) (c / d) (lt-div-mul-add pb) l in
    joined (suc a * d) (a * d) (c / d * b * d) (c / d * d * b) (c * b) (suc-mul a d) (mul-le-mul_right d p) (last_two (c / d) b d) (mul-le-mul_right b (div-mul-le_self c d))
  where
    within : (q s : ℕ) → a < q * b + b → q < s → suc a ≤ s * b
    within q s h l =
        let m : suc q * b ≤ s * b = mul-le-mul_right b l in
        let e : suc q * b ≡ q * b + b = suc-mul q b in
        omega arith

    joined : (x y z w t : ℕ) → x ≡ y + d → x ≤ z → z ≡ w → w ≤ t → y < t
    joined x y z w t e f g h = omega arith

pub whole_tells : (a b c d : ℕ) → 0 < b → 0 < d → (a / b ≡ c / d → ⊥) → nat_lt (a / b) (c / d) ≡ nat_le (a * d) (c * b)
whole_tells a b c d pb pd o = by_order (cases_lt (a / b) (c / d))
  where
    both : (x y z w : ℕ) → x < y → z < w → nat_lt x y ≡ nat_le z w
    both x y z w l k = let e : nat_lt x y ≡ true = grind arith in let f : nat_le z w ≡ true = grind arith in e ∙ sym f

    neither : (x y z w : ℕ) → y ≤ x → w < z → nat_lt x y ≡ nat_le z w
    neither x y z w l k = let e : nat_lt x y ≡ false = grind arith in let f : nat_le z w ≡ false = grind arith in e ∙ sym f

    by_order : (a / b < c / d) ⊎ (c / d ≤ a / b) → nat_lt (a / b) (c / d) ≡ nat_le (a * d) (c * b)
    by_order (inl l) = both (a / b) (c / d) (a * d) (c * b) l (whole_less a b c d pb pd l)
    by_order (inr l) = neither (a / b) (c / d) (a * d) (c * b) l (whole_less c d a b pd pb (omega (arith, o)))

-- of equal whole parts the rests compare, the other way round
pub rests_tell : (a b c d : ℕ) → a / b ≡ c / d → nat_le (a * d) (c * b) ≡ nat_le (d * (a % b)) (b * (c % d))
rests_tell a b c d e =
    same (a * d) (c * b) (b * (c / d) * d) (d * (a % b)) (b * (c % d))
    (ap (λ (k : ℕ). k * d) (sym (div-add-mod a b)) ∙ add-mul (b * (a / b)) (a % b) d ∙ ap (λ (k : ℕ). b * k * d + a % b * d) e ∙ ap (λ (k : ℕ). b * (c / d) * d + k) (mul_comm (a % b) d))
    (ap (λ (k : ℕ). k * b) (sym (div-add-mod c d)) ∙ add-mul (d * (c / d)) (c % d) b ∙ ap (λ (k : ℕ). k + c % d * b) (turned (c / d)) ∙ ap (λ (k : ℕ). b * (c / d) * d + k) (mul_comm (c % d) b))
  where
    turned : (q : ℕ) → d * q * b ≡ b * q * d
    turned q = ap (λ (k : ℕ). k * b) (mul_comm d q) ∙ last_two q d b ∙ ap (λ (k : ℕ). k * d) (mul_comm q b)

    same : (x y k m n : ℕ) → x ≡ k + m → y ≡ k + n → nat_le x y ≡ nat_le m n
    same x y k m n f g = grind arith
