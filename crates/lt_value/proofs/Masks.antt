-- The least 2 ^ k - 1 that a number doesn't pass.
use Rattle.std.proofs.Common.{arith, ◌≡◌, refl, ap, ℕ, pos, ◌+◌, ◌-◌, ◌*◌, ◌^◌, ◌<◌, ◌≤◌, suc}
use lib.Count.{count_leading_zeros}
use Rattle.std.proofs.lemmas.Nat.{leading_length}
use Rattle.std.proofs.Math.Nat.{pow-suc}
use Rattle.std.proofs.Math.Pow.{pow_mono}
use Rattle.std.proofs.lemmas.Int.{ints, by_lt_z}
use Rattle.lt_model.specs.Scalar.{greatest_of}
use Rattle.lt_model.specs.declared.scalar.DataModel.{DataModel}
use Rattle.lt_model.specs.declared.scalar.DataModel.TheVariants.{Ilp32, Lp64, Llp64, Ilp32U, Lp64U, Llp64U}
use Rattle.lt_model.specs.declared.scalar.Scalar.{Scalar}
use Rattle.lt_model.specs.declared.scalar.Scalar.TheVariants as S
use Rattle.lt_value.specs.Table.{mask_of}

-- the greatest value of a type is one of these
pub greatest_power : (m : DataModel) (s : Scalar) → (j : ℕ) × (greatest_of m s ≡ pos (2 ^ j - 1)) × (j ≤ 64)
greatest_power m S.Bool = (1, refl, omega arith)
greatest_power Ilp32 S.Char = (7, refl, omega arith)
greatest_power Lp64 S.Char = (7, refl, omega arith)
greatest_power Llp64 S.Char = (7, refl, omega arith)
greatest_power Ilp32U S.Char = (8, refl, omega arith)
greatest_power Lp64U S.Char = (8, refl, omega arith)
greatest_power Llp64U S.Char = (8, refl, omega arith)
greatest_power m S.SChar = (7, refl, omega arith)
greatest_power m S.UChar = (8, refl, omega arith)
greatest_power m S.Short = (15, refl, omega arith)
greatest_power m S.UShort = (16, refl, omega arith)
greatest_power m S.Int = (31, refl, omega arith)
greatest_power m S.UInt = (32, refl, omega arith)
greatest_power Ilp32 S.Long = (31, refl, omega arith)
greatest_power Lp64 S.Long = (63, refl, omega arith)
greatest_power Llp64 S.Long = (31, refl, omega arith)
greatest_power Ilp32U S.Long = (31, refl, omega arith)
greatest_power Lp64U S.Long = (63, refl, omega arith)
greatest_power Llp64U S.Long = (31, refl, omega arith)
greatest_power Ilp32 S.ULong = (32, refl, omega arith)
greatest_power Lp64 S.ULong = (64, refl, omega arith)
greatest_power Llp64 S.ULong = (32, refl, omega arith)
greatest_power Ilp32U S.ULong = (32, refl, omega arith)
greatest_power Lp64U S.ULong = (64, refl, omega arith)
greatest_power Llp64U S.ULong = (32, refl, omega arith)
greatest_power m S.LLong = (63, refl, omega arith)
greatest_power m S.ULLong = (64, refl, omega arith)

-- 2 ^ k passes n, and half of it doesn't
pub record IsMask (n k : ℕ) : Type 0 where
  pub is : mask_of n ≡ 2 ^ k - 1
  pub above : n < 2 ^ k
  pub half : 2 ^ k ≤ 2 * n + 1

pub mask_is : (n : ℕ) → n < 2 ^ 64 → (k : ℕ) × IsMask n k
mask_is n h =
    let (k, sum, above, half) = leading_length 64 n h in
    (k, record { is = ap (λ (i : ℕ). 2 ^ i - 1) (left (count_leading_zeros 64 n) k sum); above = above; half = half })
  where
    left : (z k : ℕ) → z + k ≡ 64 → 64 - z ≡ k
    left z k e = omega arith

least_power : (n k j : ℕ) → 2 ^ k ≤ 2 * n + 1 → n < 2 ^ j → 2 ^ k ≤ 2 ^ j
least_power n k j h p =
    by_lt_z (pos j) (pos k)
    (λ less. let far : 2 ^ suc j ≤ 2 ^ k = pow_mono (omega (arith, ints)) in absurd (omega (arith, pow-suc 2 j)))
    (λ le. pow_mono (omega (arith, ints)))

pub mask_least : (n j : ℕ) → n < 2 ^ 64 → n < 2 ^ j → mask_of n ≤ 2 ^ j - 1
mask_least n j h p =
    let (k, m) = mask_is n h in
    let le = least_power n k j m.half p in
    omega (arith, m.is)

pub mask_grows : (n o : ℕ) → n ≤ o → o < 2 ^ 64 → mask_of n ≤ mask_of o
mask_grows n o le h =
    let (k, m) = mask_is o h in
    let most = mask_least n k (omega arith) (omega (arith, m.above)) in
    omega (arith, m.is)
