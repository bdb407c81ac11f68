-- The ranges of the scalar types.
use Rattle.std.proofs.Common.{arith, ◌≡◌, refl, ℕ, ℤ, pos, negsuc, ◌+ℤ◌, ◌-ℤ◌, ◌*ℤ◌, ◌≤ℤ◌, ◌<ℤ◌, ◌-◌, ◌^◌, ◌<◌, ◌≤◌, ◌*◌, ◌%◌, suc, zero, ◌∙◌, ap, true, false, lit<, to_z, of_z}
use Rattle.std.specs.Int.{int_rem_euclid, w128}
use Rattle.std.specs.Prelude.{unsigned_abs, int_div, int_rem, int_lt, neg_ℤ, ◌/◌}
use Rattle.std.proofs.Math.Nat.{div-le_self}
use mir.Val.{SFits, hbits}
use Rattle.std.proofs.lemmas.Int.{ints, to_z-of_z, to_z_pos, fits_signed_mul}
use Rattle.std.proofs.lemmas.Nat.{one_shl, pow_below}
use Rattle.lt_model.specs.Scalar.{is_signed, width_of, least_of, greatest_of, wrapped, convert_of, IsValue}
use Rattle.lt_model.specs.declared.scalar.DataModel.{DataModel}
use Rattle.lt_model.specs.declared.scalar.DataModel.TheVariants.{Ilp32, Lp64, Llp64, Ilp32U, Lp64U, Llp64U}
use Rattle.lt_model.specs.declared.scalar.Scalar.{Scalar}
use Rattle.lt_model.specs.declared.scalar.Scalar.TheVariants as S

-- the bounds that all types share
pub record Bounds (m : DataModel) (s : Scalar) : Type 0 where
  pub low : negsuc (2 ^ 63 - 1) ≤ℤ least_of m s
  pub not_above : least_of m s ≤ℤ pos 0
  pub one : pos 1 ≤ℤ greatest_of m s
  pub high : greatest_of m s ≤ℤ pos (2 ^ 64 - 1)
  pub span : greatest_of m s ≡ least_of m s +ℤ pos (2 ^ width_of m s) -ℤ pos 1
  pub power : 2 ^ width_of m s ≤ 2 ^ 64
  pub some : 0 < 2 ^ width_of m s
  pub width : width_of m s ≤ 64

pub bounds_of : (m : DataModel) (s : Scalar) → Bounds m s
bounds_of m S.Bool = record { low = omega (arith, ints); not_above = omega (arith, ints); one = omega (arith, ints); high = omega (arith, ints); span = refl; power = omega arith; some = omega arith; width = omega arith }
bounds_of Ilp32 S.Char = record { low = omega (arith, ints); not_above = omega (arith, ints); one = omega (arith, ints); high = omega (arith, ints); span = refl; power = omega arith; some = omega arith; width = omega arith }
bounds_of Lp64 S.Char = record { low = omega (arith, ints); not_above = omega (arith, ints); one = omega (arith, ints); high = omega (arith, ints); span = refl; power = omega arith; some = omega arith; width = omega arith }
bounds_of Llp64 S.Char = record { low = omega (arith, ints); not_above = omega (arith, ints); one = omega (arith, ints); high = omega (arith, ints); span = refl; power = omega arith; some = omega arith; width = omega arith }
bounds_of Ilp32U S.Char = record { low = omega (arith, ints); not_above = omega (arith, ints); one = omega (arith, ints); high = omega (arith, ints); span = refl; power = omega arith; some = omega arith; width = omega arith }
bounds_of Lp64U S.Char = record { low = omega (arith, ints); not_above = omega (arith, ints); one = omega (arith, ints); high = omega (arith, ints); span = refl; power = omega arith; some = omega arith; width = omega arith }
bounds_of Llp64U S.Char = record { low = omega (arith, ints); not_above = omega (arith, ints); one = omega (arith, ints); high = omega (arith, ints); span = refl; power = omega arith; some = omega arith; width = omega arith }
bounds_of m S.SChar = record { low = omega (arith, ints); not_above = omega (arith, ints); one = omega (arith, ints); high = omega (arith, ints); span = refl; power = omega arith; some = omega arith; width = omega arith }
bounds_of m S.UChar = record { low = omega (arith, ints); not_above = omega (arith, ints); one = omega (arith, ints); high = omega (arith, ints); span = refl; power = omega arith; some = omega arith; width = omega arith }
bounds_of m S.Short = record { low = omega (arith, ints); not_above = omega (arith, ints); one = omega (arith, ints); high = omega (arith, ints); span = refl; power = omega arith; some = omega arith; width = omega arith }
bounds_of m S.UShort = record { low = omega (arith, ints); not_above = omega (arith, ints); one = omega (arith, ints); high = omega (arith, ints); span = refl; power = omega arith; some = omega arith; width = omega arith }
bounds_of m S.Int = record { low = omega (arith, ints); not_above = omega (arith, ints); one = omega (arith, ints); high = omega (arith, ints); span = refl; power = omega arith; some = omega arith; width = omega arith }
bounds_of m S.UInt = record { low = omega (arith, ints); not_above = omega (arith, ints); one = omega (arith, ints); high = omega (arith, ints); span = refl; power = omega arith; some = omega arith; width = omega arith }
bounds_of Ilp32 S.Long = record { low = omega (arith, ints); not_above = omega (arith, ints); one = omega (arith, ints); high = omega (arith, ints); span = refl; power = omega arith; some = omega arith; width = omega arith }
bounds_of Lp64 S.Long = record { low = omega (arith, ints); not_above = omega (arith, ints); one = omega (arith, ints); high = omega (arith, ints); span = refl; power = omega arith; some = omega arith; width = omega arith }
bounds_of Llp64 S.Long = record { low = omega (arith, ints); not_above = omega (arith, ints); one = omega (arith, ints); high = omega (arith, ints); span = refl; power = omega arith; some = omega arith; width = omega arith }
bounds_of Ilp32U S.Long = record { low = omega (arith, ints); not_above = omega (arith, ints); one = omega (arith, ints); high = omega (arith, ints); span = refl; power = omega arith; some = omega arith; width = omega arith }
bounds_of Lp64U S.Long = record { low = omega (arith, ints); not_above = omega (arith, ints); one = omega (arith, ints); high = omega (arith, ints); span = refl; power = omega arith; some = omega arith; width = omega arith }
bounds_of Llp64U S.Long = record { low = omega (arith, ints); not_above = omega (arith, ints); one = omega (arith, ints); high = omega (arith, ints); span = refl; power = omega arith; some = omega arith; width = omega arith }
bounds_of Ilp32 S.ULong = record { low = omega (arith, ints); not_above = omega (arith, ints); one = omega (arith, ints); high = omega (arith, ints); span = refl; power = omega arith; some = omega arith; width = omega arith }
bounds_of Lp64 S.ULong = record { low = omega (arith, ints); not_above = omega (arith, ints); one = omega (arith, ints); high = omega (arith, ints); span = refl; power = omega arith; some = omega arith; width = omega arith }
bounds_of Llp64 S.ULong = record { low = omega (arith, ints); not_above = omega (arith, ints); one = omega (arith, ints); high = omega (arith, ints); span = refl; power = omega arith; some = omega arith; width = omega arith }
bounds_of Ilp32U S.ULong = record { low = omega (arith, ints); not_above = omega (arith, ints); one = omega (arith, ints); high = omega (arith, ints); span = refl; power = omega arith; some = omega arith; width = omega arith }
bounds_of Lp64U S.ULong = record { low = omega (arith, ints); not_above = omega (arith, ints); one = omega (arith, ints); high = omega (arith, ints); span = refl; power = omega arith; some = omega arith; width = omega arith }
bounds_of Llp64U S.ULong = record { low = omega (arith, ints); not_above = omega (arith, ints); one = omega (arith, ints); high = omega (arith, ints); span = refl; power = omega arith; some = omega arith; width = omega arith }
bounds_of m S.LLong = record { low = omega (arith, ints); not_above = omega (arith, ints); one = omega (arith, ints); high = omega (arith, ints); span = refl; power = omega arith; some = omega arith; width = omega arith }
bounds_of m S.ULLong = record { low = omega (arith, ints); not_above = omega (arith, ints); one = omega (arith, ints); high = omega (arith, ints); span = refl; power = omega arith; some = omega arith; width = omega arith }

-- the values of a signed type are below 2 ^ 63
pub signed_high : (m : DataModel) (s : Scalar) → is_signed m s ≡ true → greatest_of m s ≤ℤ pos (2 ^ 63 - 1)
signed_high m S.Bool t = cc
signed_high Ilp32 S.Char t = omega (arith, ints)
signed_high Lp64 S.Char t = omega (arith, ints)
signed_high Llp64 S.Char t = omega (arith, ints)
signed_high Ilp32U S.Char t = cc
signed_high Lp64U S.Char t = cc
signed_high Llp64U S.Char t = cc
signed_high m S.SChar t = omega (arith, ints)
signed_high m S.UChar t = cc
signed_high m S.Short t = omega (arith, ints)
signed_high m S.UShort t = cc
signed_high m S.Int t = omega (arith, ints)
signed_high m S.UInt t = cc
signed_high Ilp32 S.Long t = omega (arith, ints)
signed_high Lp64 S.Long t = omega (arith, ints)
signed_high Llp64 S.Long t = omega (arith, ints)
signed_high Ilp32U S.Long t = omega (arith, ints)
signed_high Lp64U S.Long t = omega (arith, ints)
signed_high Llp64U S.Long t = omega (arith, ints)
signed_high m S.ULong t = cc
signed_high m S.LLong t = omega (arith, ints)
signed_high m S.ULLong t = cc

-- what every value of every type lies between
pub record IsSmall (z : ℤ) : Type 0 where
  pub low : negsuc (2 ^ 63 - 1) ≤ℤ z
  pub high : z ≤ℤ pos (2 ^ 64 - 1)

pub IsSmall-value : (m : DataModel) (s : Scalar) (z : ℤ) → IsValue m s z → IsSmall z
IsSmall-value m s z v =
    let b : Bounds m s = bounds_of m s in
    record { low = omega (arith, ints); high = omega (arith, ints) }

pub residue_below : (z : ℤ) (n : ℕ) → 0 < n → (pos 0 ≤ℤ int_rem_euclid z (pos n)) × (int_rem_euclid z (pos n) <ℤ pos n)
residue_below (pos a) n h = (omega (arith, ints), omega (arith, ints))
residue_below (negsuc a) n h = (omega (arith, ints), omega (arith, ints))

-- a least value and less than a span more stay within the span
pub within_span : (l g r : ℤ) (n : ℕ) → g ≡ l +ℤ pos n -ℤ pos 1 → pos 0 ≤ℤ r → r <ℤ pos n → (l ≤ℤ (l +ℤ r)) × ((l +ℤ r) ≤ℤ g)
within_span l g r n e p q = (omega (arith, ints), omega (arith, ints))

-- a reduced number is a value of the type
pub IsValue-wrapped : (m : DataModel) (s : Scalar) (z : ℤ) → IsValue m s (wrapped m s z)
IsValue-wrapped m s z =
    let b : Bounds m s = bounds_of m s in
    let r = residue_below (z -ℤ least_of m s) (2 ^ width_of m s) b.some in
    let h = within_span (least_of m s) (greatest_of m s) (int_rem_euclid (z -ℤ least_of m s) (pos (2 ^ width_of m s))) (2 ^ width_of m s) b.span r.0 r.1 in
    record { above = h.0; below = h.1 }

pub convert_of-other : (m : DataModel) (s : Scalar) (z : ℤ) → (s ≡ S.Bool → ⊥) → convert_of m s z ≡ wrapped m s z
convert_of-other m S.Bool z h = absurd (h refl)
convert_of-other m S.Char z h = refl
convert_of-other m S.SChar z h = refl
convert_of-other m S.UChar z h = refl
convert_of-other m S.Short z h = refl
convert_of-other m S.UShort z h = refl
convert_of-other m S.Int z h = refl
convert_of-other m S.UInt z h = refl
convert_of-other m S.Long z h = refl
convert_of-other m S.ULong z h = refl
convert_of-other m S.LLong z h = refl
convert_of-other m S.ULLong z h = refl

-- a value of a signed type is at most 2 ^ 63 from zero
pub signed_abs : (m : DataModel) (s : Scalar) (z : ℤ) → is_signed m s ≡ true → IsValue m s z → unsigned_abs z ≤ 2 ^ 63
signed_abs m s z t v =
    let b : Bounds m s = bounds_of m s in
    let h = signed_high m s t in
    near z (omega (arith, ints)) (omega (arith, ints))
  where
    near : (z : ℤ) → negsuc (2 ^ 63 - 1) ≤ℤ z → z ≤ℤ pos (2 ^ 63 - 1) → unsigned_abs z ≤ 2 ^ 63
    near (pos n) p q = omega (arith, ints)
    near (negsuc n) p q = omega (arith, ints)

-- a product of two such numbers fits 128 bits
pub product_fits : (a b : ℤ) → unsigned_abs a ≤ 2 ^ 63 → unsigned_abs b ≤ 2 ^ 63 → SFits w128 (a *ℤ b)
product_fits a b p q = fits_signed_mul w128 a b (2 ^ 63) (2 ^ 63) p q (lit< tt)

-- what the code's signed arithmetic gives where the result fits
pub sum_as_code : (a b : ℤ) → SFits w128 a → SFits w128 b → SFits w128 (a +ℤ b) → to_z w128 (of_z w128 (to_z w128 (of_z w128 a) +ℤ to_z w128 (of_z w128 b))) ≡ a +ℤ b
sum_as_code a b f g h = simp to_z-of_z

pub difference_as_code : (a b : ℤ) → SFits w128 a → SFits w128 b → SFits w128 (a -ℤ b) → to_z w128 (of_z w128 (to_z w128 (of_z w128 a) -ℤ to_z w128 (of_z w128 b))) ≡ a -ℤ b
difference_as_code a b f g h = simp to_z-of_z

pub product_as_code : (a b : ℤ) → SFits w128 a → SFits w128 b → SFits w128 (a *ℤ b) → to_z w128 (of_z w128 (to_z w128 (of_z w128 a) *ℤ to_z w128 (of_z w128 b))) ≡ a *ℤ b
product_as_code a b f g h = simp to_z-of_z

pub sum_fits : (m : DataModel) (s : Scalar) (a b : ℤ) → IsValue m s a → IsValue m s b → SFits w128 (a +ℤ b)
sum_fits m s a b p q =
    let u = IsSmall-value m s a p in
    let v = IsSmall-value m s b q in
    omega (arith, ints)

pub difference_fits : (m : DataModel) (s : Scalar) (a b : ℤ) → IsValue m s a → IsValue m s b → SFits w128 (a -ℤ b)
difference_fits m s a b p q =
    let u = IsSmall-value m s a p in
    let v = IsSmall-value m s b q in
    omega (arith, ints)

negated_fits : (n : ℕ) → n ≤ 2 ^ 64 → SFits w128 (neg_ℤ (pos n))
negated_fits zero h = omega (arith, ints)
negated_fits (suc n) h = omega (arith, ints)

-- a quotient is no further from zero than what is divided
quotient_small : (a b : ℤ) → IsSmall a → SFits w128 (int_div a b)
quotient_small (pos a) (pos b) h = let s = div-le_self a b in let high = h.high in omega (arith, ints)
quotient_small (pos a) (negsuc b) h = let s = div-le_self a (suc b) in let high = h.high in negated_fits (a / suc b) (omega (arith, ints))
quotient_small (negsuc a) (pos b) h = let s = div-le_self (suc a) b in let low = h.low in negated_fits (suc a / b) (omega (arith, ints))
quotient_small (negsuc a) (negsuc b) h = let s = div-le_self (suc a) (suc b) in let low = h.low in omega (arith, ints)

pub quotient_fits : (m : DataModel) (s : Scalar) (a b : ℤ) → IsValue m s a → SFits w128 (int_div a b)
quotient_fits m s a b v = quotient_small a b (IsSmall-value m s a v)
