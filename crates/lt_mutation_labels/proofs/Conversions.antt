-- Promotions and the usual arithmetic conversions keep values, and a type that is promoted is promoted to itself.
use Rattle.std.proofs.Common.{arith, ◌≡◌, refl, ap, ◌∙◌, ℕ, ℤ, pos, negsuc, ◌+ℤ◌, ◌-ℤ◌, ◌≤ℤ◌, ◌<ℤ◌, ◌^◌, Bool, true, false}
use Rattle.std.specs.Prelude.{if◌then◌else◌, nat_lt}
use Rattle.std.specs.Int.{int_rem_euclid}
use Rattle.std.specs.Ordering.{int_eq}
use Rattle.std.proofs.lemmas.Int.{ints}
use Rattle.std.proofs.Math.Nat.{mod-eq_of_lt}
use Rattle.lt_model.specs.declared.scalar.DataModel.{DataModel}
use Rattle.lt_model.specs.declared.scalar.DataModel.TheVariants.{Ilp32, Lp64, Llp64, Ilp32U, Lp64U, Llp64U}
use Rattle.lt_model.specs.declared.scalar.Scalar.{Scalar}
use Rattle.lt_model.specs.declared.scalar.Scalar.TheVariants as S
use Rattle.lt_model.specs.Scalar.{is_signed, width_of, least_of, greatest_of, wrapped, convert_of, IsValue}
use Rattle.lt_model.specs.Conversions.{rank_of, represents, promoted, common, usual_of}
use Rattle.lt_model.specs.Operators.{truth}
use Rattle.lt_model.proofs.Ranges.{Bounds, bounds_of, convert_of-other, IsValue-wrapped}
use Rattle.lt_tree.specs.Typing.Types.{same_scalar}

-- ---- a value stays where its type has it

rem_small : (z : ℤ) (n : ℕ) → pos 0 ≤ℤ z → z <ℤ pos n → int_rem_euclid z (pos n) ≡ z
rem_small (pos a) n h g = ap pos (mod-eq_of_lt (omega (arith, ints)))
rem_small (negsuc a) n h g = absurd (omega (arith, ints))

back : (l z : ℤ) → l +ℤ (z -ℤ l) ≡ z
back l z = omega (arith, ints)

wrapped_stays : (m : DataModel) (s : Scalar) (z : ℤ) → IsValue m s z → wrapped m s z ≡ z
wrapped_stays m s z v =
    let b : Bounds m s = bounds_of m s in
    ap (λ r. least_of m s +ℤ r) (rem_small (z -ℤ least_of m s) (2 ^ width_of m s) (from (least_of m s) v.above) (below (least_of m s) (greatest_of m s) (2 ^ width_of m s) b.span v.below)) ∙ back (least_of m s) z
  where
    from : (l : ℤ) → l ≤ℤ z → pos 0 ≤ℤ (z -ℤ l)
    from l h = omega (arith, ints)

    below : (l g : ℤ) (n : ℕ) → g ≡ l +ℤ pos n -ℤ pos 1 → z ≤ℤ g → (z -ℤ l) <ℤ pos n
    below l g n e h = omega (arith, ints)

pub stays : (m : DataModel) (s : Scalar) (z : ℤ) → (s ≡ S.Bool → ⊥) → IsValue m s z → convert_of m s z ≡ z
stays m s z h v = convert_of-other m s z h ∙ wrapped_stays m s z v

pub truth_value : (m : DataModel) (s : Scalar) (b : Bool) → IsValue m s (truth b)
truth_value m s true = let h : Bounds m s = bounds_of m s in record { above = omega (arith, ints); below = h.one }
truth_value m s false = let h : Bounds m s = bounds_of m s in record { above = h.not_above; below = omega (arith, ints) }

-- what is converted is a value of the type
pub converted_value : (m : DataModel) (s : Scalar) (z : ℤ) → IsValue m s (convert_of m s z)
converted_value m S.Bool z = by (int_eq z (pos 0))
  where
    by : (b : Bool) → IsValue m S.Bool (if b then pos 0 else pos 1)
    by true = truth_value m S.Bool false
    by false = truth_value m S.Bool true
converted_value m S.Char z = IsValue-wrapped m S.Char z
converted_value m S.SChar z = IsValue-wrapped m S.SChar z
converted_value m S.UChar z = IsValue-wrapped m S.UChar z
converted_value m S.Short z = IsValue-wrapped m S.Short z
converted_value m S.UShort z = IsValue-wrapped m S.UShort z
converted_value m S.Int z = IsValue-wrapped m S.Int z
converted_value m S.UInt z = IsValue-wrapped m S.UInt z
converted_value m S.Long z = IsValue-wrapped m S.Long z
converted_value m S.ULong z = IsValue-wrapped m S.ULong z
converted_value m S.LLong z = IsValue-wrapped m S.LLong z
converted_value m S.ULLong z = IsValue-wrapped m S.ULLong z

-- ---- promoted types

pub same_self : (s : Scalar) → same_scalar s s ≡ true
same_self S.Bool = refl
same_self S.Char = refl
same_self S.SChar = refl
same_self S.UChar = refl
same_self S.Short = refl
same_self S.UShort = refl
same_self S.Int = refl
same_self S.UInt = refl
same_self S.Long = refl
same_self S.ULong = refl
same_self S.LLong = refl
same_self S.ULLong = refl

-- what a type of no greater rank than `int` becomes, where `int` represents its values or doesn't
abbrev small : Bool → Scalar
small b = if b then S.Int else S.UInt

small_again : (m : DataModel) (b : Bool) → promoted m (small b) ≡ small b
small_again m true = refl
small_again m false = refl

pub promoted_again : (m : DataModel) (t : Scalar) → promoted m (promoted m t) ≡ promoted m t
promoted_again m S.Bool = small_again m (represents m S.Int S.Bool)
promoted_again m S.Char = small_again m (represents m S.Int S.Char)
promoted_again m S.SChar = small_again m (represents m S.Int S.SChar)
promoted_again m S.UChar = small_again m (represents m S.Int S.UChar)
promoted_again m S.Short = small_again m (represents m S.Int S.Short)
promoted_again m S.UShort = small_again m (represents m S.Int S.UShort)
promoted_again m S.Int = refl
promoted_again m S.UInt = refl
promoted_again m S.Long = refl
promoted_again m S.ULong = refl
promoted_again m S.LLong = refl
promoted_again m S.ULLong = refl

small_no_bool : (b : Bool) → small b ≡ S.Bool → ⊥
small_no_bool true e = cc
small_no_bool false e = cc

pub no_bool : (m : DataModel) (t : Scalar) → promoted m t ≡ S.Bool → ⊥
no_bool m S.Bool e = small_no_bool (represents m S.Int S.Bool) e
no_bool m S.Char e = small_no_bool (represents m S.Int S.Char) e
no_bool m S.SChar e = small_no_bool (represents m S.Int S.SChar) e
no_bool m S.UChar e = small_no_bool (represents m S.Int S.UChar) e
no_bool m S.Short e = small_no_bool (represents m S.Int S.Short) e
no_bool m S.UShort e = small_no_bool (represents m S.Int S.UShort) e
no_bool m S.Int e = cc
no_bool m S.UInt e = cc
no_bool m S.Long e = cc
no_bool m S.ULong e = cc
no_bool m S.LLong e = cc
no_bool m S.ULLong e = cc

either_same : {A : Type 0} (b : Bool) (a : A) → (if b then a else a) ≡ a
either_same true a = refl
either_same false a = refl

-- the common type of a type and itself
common_self : (m : DataModel) (a : Scalar) → common m a a ≡ a
common_self m a = by (is_signed m a) refl
  where
    by : (b : Bool) → is_signed m a ≡ b → common m a a ≡ a
    by true e = rw e (either_same (nat_lt (rank_of a) (rank_of a)) a)
    by false e = rw e (either_same (nat_lt (rank_of a) (rank_of a)) a)

-- a promoted type with the type that it was made of
pub usual_promoted : (m : DataModel) (t : Scalar) → usual_of m (promoted m t) t ≡ promoted m t
usual_promoted m t = ap (λ s. common m s (promoted m t)) (promoted_again m t) ∙ common_self m (promoted m t)

pub promoted_usual : (m : DataModel) (t : Scalar) → usual_of m t (promoted m t) ≡ promoted m t
promoted_usual m t = ap (common m (promoted m t)) (promoted_again m t) ∙ common_self m (promoted m t)

pub usual_self : (m : DataModel) (t : Scalar) → usual_of m t t ≡ promoted m t
usual_self m t = common_self m (promoted m t)

-- ---- a value of a type is one of its promoted type

wider : (m : DataModel) (s t : Scalar) (z : ℤ) → least_of m s ≤ℤ least_of m t → greatest_of m t ≤ℤ greatest_of m s → IsValue m t z → IsValue m s z
wider m s t z h g v = record { above = omega (arith, ints); below = omega (arith, ints) }

pub promoted_value : (m : DataModel) (t : Scalar) (z : ℤ) → IsValue m t z → IsValue m (promoted m t) z
promoted_value m S.Bool z v = wider m S.Int S.Bool z (omega (arith, ints)) (omega (arith, ints)) v
promoted_value Ilp32 S.Char z v = wider Ilp32 S.Int S.Char z (omega (arith, ints)) (omega (arith, ints)) v
promoted_value Lp64 S.Char z v = wider Lp64 S.Int S.Char z (omega (arith, ints)) (omega (arith, ints)) v
promoted_value Llp64 S.Char z v = wider Llp64 S.Int S.Char z (omega (arith, ints)) (omega (arith, ints)) v
promoted_value Ilp32U S.Char z v = wider Ilp32U S.Int S.Char z (omega (arith, ints)) (omega (arith, ints)) v
promoted_value Lp64U S.Char z v = wider Lp64U S.Int S.Char z (omega (arith, ints)) (omega (arith, ints)) v
promoted_value Llp64U S.Char z v = wider Llp64U S.Int S.Char z (omega (arith, ints)) (omega (arith, ints)) v
promoted_value m S.SChar z v = wider m S.Int S.SChar z (omega (arith, ints)) (omega (arith, ints)) v
promoted_value m S.UChar z v = wider m S.Int S.UChar z (omega (arith, ints)) (omega (arith, ints)) v
promoted_value m S.Short z v = wider m S.Int S.Short z (omega (arith, ints)) (omega (arith, ints)) v
promoted_value m S.UShort z v = wider m S.Int S.UShort z (omega (arith, ints)) (omega (arith, ints)) v
promoted_value m S.Int z v = v
promoted_value m S.UInt z v = v
promoted_value m S.Long z v = v
promoted_value m S.ULong z v = v
promoted_value m S.LLong z v = v
promoted_value m S.ULLong z v = v
