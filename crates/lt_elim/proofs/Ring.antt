-- Products of whole numbers, and what may be cancelled.
use Rattle.std.proofs.Common.{arith, ◌≡◌, sym, ◌∙◌, ap, ℕ, suc, zero, ℤ, pos, negsuc, ◌+ℤ◌, ◌*ℤ◌, ◌≤ℤ◌, ◌<ℤ◌, ◌+◌, ◌*◌, ◌/◌, ◌%◌, ◌<◌, div-add-mod', mul_comm}
use Rattle.std.specs.Prelude.{neg_ℤ, unsigned_abs}
use Rattle.std.specs.Int.{◌∣◌}
use Rattle.std.proofs.lemmas.Int.{ints, by_lt_z}
use Rattle.std.proofs.lemmas.Nat.Gcd.{mod-eq-zero_of_dvd}
use Rattle.std.proofs.Math.IntN.{*ℤ_comm}
use borrow.Author.Differences.{up, down, same_in, product_is}
use Rattle.lt_model.proofs.Whole.{mul_assoc_ℤ, mul-≤ℤ}
use Rattle.lt_lin.proofs.Whole.{exact_is, exact_gives, floor_unique}
use Rattle.lt_elim.specs.Divisor.{quotient}

up_product : (a b : ℤ) → up (a *ℤ b) ≡ up a * up b + down a * down b
up_product a b = (product_is a b).0

down_product : (a b : ℤ) → down (a *ℤ b) ≡ up a * down b + down a * up b
down_product a b = (product_is a b).1

pub swap_right : (a b c : ℤ) → a *ℤ b *ℤ c ≡ a *ℤ c *ℤ b
swap_right a b c = mul_assoc_ℤ a b c ∙ ap (λ z. a *ℤ z) (*ℤ_comm b c) ∙ sym (mul_assoc_ℤ a c b)

pub swap_inner : (a b c d : ℤ) → a *ℤ b *ℤ (c *ℤ d) ≡ a *ℤ c *ℤ (b *ℤ d)
swap_inner a b c d = same_in (a *ℤ b *ℤ (c *ℤ d)) (a *ℤ c *ℤ (b *ℤ d)) (simp (up_product, down_product) (omega arith))

-- ---- signs
pub product_not_negative : (a b : ℤ) → pos 0 ≤ℤ a → pos 0 ≤ℤ b → pos 0 ≤ℤ (a *ℤ b)
product_not_negative a b h k = low (a *ℤ pos 0) (a *ℤ b) (mul-≤ℤ (pos 0) b a h k) (nothing a)
  where
    nothing : (z : ℤ) → z *ℤ pos 0 ≡ pos 0
    nothing z = omega (arith, ints)

    low : (x y : ℤ) → x ≤ℤ y → x ≡ pos 0 → pos 0 ≤ℤ y
    low x y h e = omega (arith, ints)

-- a product of a positive number that is not negative
pub not_negative_from : (k x : ℤ) → pos 0 <ℤ k → pos 0 ≤ℤ (k *ℤ x) → pos 0 ≤ℤ x
not_negative_from k x h p = by_lt_z x (pos 0)
    (λ less. absurd (
    let m : (k *ℤ x) ≤ℤ (k *ℤ negsuc 0) = mul-≤ℤ x (negsuc 0) k (omega (arith, ints)) (omega (arith, ints)) in
    clash (k *ℤ x) (k *ℤ negsuc 0) m p (minus k)
    ))
    (λ more. more)
  where
    minus : (z : ℤ) → z *ℤ negsuc 0 ≡ neg_ℤ z
    minus z = omega (arith, ints)

    clash : (a b : ℤ) → a ≤ℤ b → pos 0 ≤ℤ a → b ≡ neg_ℤ k → ⊥
    clash a b m p e = omega (arith, ints)

pub cancelled : (k a b : ℤ) → pos 0 <ℤ k → k *ℤ a ≡ k *ℤ b → a ≡ b
cancelled k a b h e = floor_unique k a b (k *ℤ a) h (same (k *ℤ a)) (above (k *ℤ a)) (low (k *ℤ b) (k *ℤ a) e) (high (k *ℤ b) (k *ℤ a) e)
  where
    same : (p : ℤ) → p ≤ℤ p
    same p = omega (arith, ints)

    above : (p : ℤ) → p <ℤ (p +ℤ k)
    above p = omega (arith, ints)

    low : (q p : ℤ) → p ≡ q → q ≤ℤ p
    low q p e = omega (arith, ints)

    high : (q p : ℤ) → p ≡ q → p <ℤ (q +ℤ k)
    high q p e = omega (arith, ints)

-- ---- quotients that leave no rest
pub exact_ℕ : (n g : ℕ) → g ∣ n → n / g * g ≡ n
exact_ℕ n g h = let z : n % g ≡ 0 = mod-eq-zero_of_dvd g h in let d : n / g * g + n % g ≡ n = div-add-mod' n g in omega arith

pub exact_ℤ : (z : ℤ) (g : ℕ) → 0 < g → g ∣ unsigned_abs z → pos g *ℤ quotient z g ≡ z
exact_ℤ (pos n) g some h = ap pos (mul_comm g (n / g) ∙ exact_ℕ n g h)
exact_ℤ (negsuc n) g some h = by_times (suc n / g) (exact_ℕ (suc n) g h)
  where
    by_times : (k : ℕ) → k * g ≡ suc n → pos g *ℤ quotient (negsuc n) g ≡ negsuc n
    by_times zero e = absurd (omega arith)
    by_times (suc k) e =
        let m : g * suc k ≡ suc n = mul_comm g (suc k) ∙ e in
        let is : negsuc n ≡ pos g *ℤ negsuc k = ap (λ (x : ℕ). neg_ℤ (pos x)) (sym m) in
        sym (exact_is (negsuc n) (pos g) (omega (arith, ints)) (exact_gives (negsuc n) (pos g) (negsuc k) (omega (arith, ints)) is))
