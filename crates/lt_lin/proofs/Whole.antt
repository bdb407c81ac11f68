-- Division of whole numbers that rounds down.
use Rattle.std.proofs.Common.{arith, ◌≡◌, ap, ℕ, ℤ, pos, negsuc, ◌+ℤ◌, ◌*ℤ◌, ◌≤ℤ◌, ◌<ℤ◌, ◌<◌}
use Rattle.std.proofs.lemmas.Int.{ints, by_lt_z}
use Rattle.std.specs.Int.{int_rem_euclid, int_div_euclid}
use Rattle.std.proofs.Math.Nat.{div-add-mod', mod-lt}
use Rattle.lt_model.proofs.Whole.{mul-≤ℤ, mul-add_ℤ}

-- quotient and remainder
pub euclid : (z : ℤ) (b : ℕ) → 0 < b → (pos b *ℤ int_div_euclid z (pos b) +ℤ int_rem_euclid z (pos b) ≡ z) × (pos 0 ≤ℤ int_rem_euclid z (pos b)) × (int_rem_euclid z (pos b) <ℤ pos b)
euclid (pos a) b some = (omega (arith, ints, div-add-mod' a b), omega (arith, ints), omega (arith, ints, mod-lt a some))
euclid (negsuc a) b some = (omega (arith, ints, div-add-mod' a b, mod-lt a some), omega (arith, ints), omega (arith, ints, mod-lt a some))

-- the same for a divisor that is a whole number
pub euclid_ℤ : (z d : ℤ) → pos 0 <ℤ d → (d *ℤ int_div_euclid z d +ℤ int_rem_euclid z d ≡ z) × (pos 0 ≤ℤ int_rem_euclid z d) × (int_rem_euclid z d <ℤ d)
euclid_ℤ z (pos b) h = euclid z b (omega (arith, ints))
euclid_ℤ z (negsuc b) h = absurd (omega (arith, ints))

pub floor_le : (d a b k : ℤ) → pos 0 <ℤ d → (d *ℤ a) ≤ℤ k → k <ℤ (d *ℤ b +ℤ d) → a ≤ℤ b
floor_le d a b k h low high = by_lt_z b a
    (λ less.
    let m : (d *ℤ (b +ℤ pos 1)) ≤ℤ (d *ℤ a) = mul-≤ℤ (b +ℤ pos 1) a d (omega (arith, ints)) (omega (arith, ints)) in
    let e : d *ℤ (b +ℤ pos 1) ≡ d *ℤ b +ℤ d *ℤ pos 1 = mul-add_ℤ d b (pos 1) in
    let o : d *ℤ pos 1 ≡ d = mul-one_ℤ d in
    absurd (clash (d *ℤ (b +ℤ pos 1)) (d *ℤ a) (d *ℤ b) (d *ℤ pos 1) k m e o low high))
    (λ up. up)
  where
    mul-one_ℤ : (z : ℤ) → z *ℤ pos 1 ≡ z
    mul-one_ℤ z = omega (arith, ints)

    clash : (p q r s k : ℤ) → p ≤ℤ q → p ≡ r +ℤ s → s ≡ d → q ≤ℤ k → k <ℤ (r +ℤ d) → ⊥
    clash p q r s k m e o l h = omega (arith, ints)

pub ≤ℤ-antisym : (a b : ℤ) → a ≤ℤ b → b ≤ℤ a → a ≡ b
≤ℤ-antisym a b p q = omega (arith, ints)

-- there is one quotient that is rounded down
pub floor_unique : (d a b k : ℤ) → pos 0 <ℤ d → (d *ℤ a) ≤ℤ k → k <ℤ (d *ℤ a +ℤ d) → (d *ℤ b) ≤ℤ k → k <ℤ (d *ℤ b +ℤ d) → a ≡ b
floor_unique d a b k h p q r s = ≤ℤ-antisym a b (floor_le d a b k h p s) (floor_le d b a k h r q)

pub floor_low : (z d : ℤ) → pos 0 <ℤ d → (d *ℤ int_div_euclid z d) ≤ℤ z
floor_low z d h = below (d *ℤ int_div_euclid z d) (int_rem_euclid z d) z (euclid_ℤ z d h).0 (euclid_ℤ z d h).1
  where
    below : (p r z : ℤ) → p +ℤ r ≡ z → pos 0 ≤ℤ r → p ≤ℤ z
    below p r z e h = omega (arith, ints)

pub floor_high : (z d : ℤ) → pos 0 <ℤ d → z <ℤ (d *ℤ int_div_euclid z d +ℤ d)
floor_high z d h = above (d *ℤ int_div_euclid z d) (int_rem_euclid z d) z (euclid_ℤ z d h).0 (euclid_ℤ z d h).2
  where
    above : (p r z : ℤ) → p +ℤ r ≡ z → r <ℤ d → z <ℤ (p +ℤ d)
    above p r z e h = omega (arith, ints)

pub exact_is : (z d : ℤ) → pos 0 <ℤ d → int_rem_euclid z d ≡ pos 0 → z ≡ d *ℤ int_div_euclid z d
exact_is z d h e = exact (d *ℤ int_div_euclid z d) (int_rem_euclid z d) (euclid_ℤ z d h).0 e
  where
    exact : (p r : ℤ) → p +ℤ r ≡ z → r ≡ pos 0 → z ≡ p
    exact p r e f = omega (arith, ints)

pub exact_gives : (z d q : ℤ) → pos 0 <ℤ d → z ≡ d *ℤ q → int_rem_euclid z d ≡ pos 0
exact_gives z d q h e =
    let same : int_div_euclid z d ≡ q = floor_unique d (int_div_euclid z d) q z h (floor_low z d h) (floor_high z d h) (low (d *ℤ q) e) (high (d *ℤ q) e) in
    rest (d *ℤ int_div_euclid z d) (d *ℤ q) (int_rem_euclid z d) (euclid_ℤ z d h).0 (ap (λ k. d *ℤ k) same) e
  where
    low : (p : ℤ) → z ≡ p → p ≤ℤ z
    low p e = omega (arith, ints)

    high : (p : ℤ) → z ≡ p → z <ℤ (p +ℤ d)
    high p e = omega (arith, ints)

    rest : (p q r : ℤ) → p +ℤ r ≡ z → p ≡ q → z ≡ q → r ≡ pos 0
    rest p q r e f g = omega (arith, ints)
