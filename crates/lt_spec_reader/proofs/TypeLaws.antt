-- Integers are what has an integer type, and the size of a numeral.
use Rattle.std.proofs.Common.{◌≡◌, ℕ, zero, suc, sym, Bool, true, false, Option, Some, None, refl}
use Rattle.std.specs.Prelude.{is_some, nat_abs, neg_ℤ, pos, if◌then◌else◌}
use Rattle.lt_tree.specs.Typing.Types.{CType, Void, Num, Pointer, Array, Struct, Function, Floating, Qualified, is_integer, scalar_of}
use Rattle.lt_entry.specs.Written.{Numeral, value_of}

pub integer_is : (t : CType) → is_integer t ≡ is_some (scalar_of t)
integer_is Void = refl
integer_is (Num s) = refl
integer_is (Pointer t) = refl
integer_is (Array t n) = refl
integer_is (Struct k) = refl
integer_is (Function t ts dots) = refl
integer_is Floating = refl
integer_is (Qualified q t) = integer_is t

size_neg : (n : ℕ) → nat_abs (neg_ℤ (pos n)) ≡ n
size_neg zero = refl
size_neg (suc n) = refl

pub size_is : (n : Numeral) → n.size ≡ nat_abs (value_of n)
size_is n = by n.is_negative
  where
    by : (b : Bool) → n.size ≡ nat_abs (if b then neg_ℤ (pos n.size) else pos n.size)
    by true = sym (size_neg n.size)
    by false = refl
