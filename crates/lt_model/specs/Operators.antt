-- What each operator gives on the values of one type, C11 6.5.5 to 6.5.12, or the kind of its undefined behaviour.
use Rattle.std.specs.Prelude.{ℕ, zero, Bool, not, ◌&&◌, ◌⊎◌, ℤ, pos, ◌+ℤ◌, ◌-ℤ◌, ◌*ℤ◌, ◌≤ℤ◌, ◌^◌, if◌then◌else◌, int_lt, int_le, int_div, int_rem, unsigned_abs, bit_and, bit_or, bit_xor}
use Rattle.std.specs.Prelude.{Result, Ok, Err}
use Rattle.std.specs.Int.{int_rem_euclid, int_shr}
use Rattle.std.specs.Ordering.{int_eq}
use Rattle.lt_model.specs.declared.scalar.DataModel.{DataModel}
use Rattle.lt_model.specs.declared.scalar.Scalar.{Scalar}
use Rattle.lt_model.specs.declared.operator.Op.{Op}
use Rattle.lt_model.specs.declared.operator.Op.TheVariants as O
use Rattle.lt_model.specs.declared.operator.Ub.{Ub}
use Rattle.lt_model.specs.declared.operator.Ub.TheVariants as U
use Rattle.lt_model.specs.declared.operator.Ub.TheVariants.{Overflow, ZeroDivisor, Quotient, Shift}
use Rattle.lt_model.specs.Scalar.{width_of, is_signed, least_of, greatest_of, wrapped, IsValue}

abbrev pub is_value : DataModel → Scalar → ℤ → Bool
is_value m s z = int_le (least_of m s) z && int_le z (greatest_of m s)

-- an exact result, or its kind where it is no value of the type
abbrev pub exact_or : Ub → DataModel → Scalar → ℤ → Result ℤ Ub
exact_or kind m s z = if is_value m s z then Ok z else Err kind

-- a sum, a difference or a product
abbrev pub settled : DataModel → Scalar → ℤ → Result ℤ Ub
settled m s z = if is_signed m s then exact_or Overflow m s z else Ok (wrapped m s z)

-- z, where b may divide a
abbrev pub after_division : DataModel → Scalar → ℤ → ℤ → ℤ → Result ℤ Ub
after_division m s a (pos zero) z = Err ZeroDivisor
after_division m s a b z = if is_value m s (int_div a b) then Ok z else Err Quotient

abbrev pub is_count : DataModel → Scalar → ℤ → Bool
is_count m s b = int_le (pos 0) b && int_lt b (pos (width_of m s))

abbrev pub shifted_left : DataModel → Scalar → ℤ → ℕ → Result ℤ Ub
shifted_left m s a k =
    if is_signed m s then (if int_lt a (pos 0) then Err Shift else exact_or Shift m s (a *ℤ pos (2 ^ k))) else Ok (wrapped m s (a *ℤ pos (2 ^ k)))

-- the two's complement of z
abbrev pub bits_of : DataModel → Scalar → ℤ → ℕ
bits_of m s z = unsigned_abs (int_rem_euclid z (pos (2 ^ width_of m s)))

abbrev pub bitwise : (ℕ → ℕ → ℕ) → DataModel → Scalar → ℤ → ℤ → ℤ
bitwise f m s a b = wrapped m s (pos (f (bits_of m s a) (bits_of m s b)))

abbrev pub truth : Bool → ℤ
truth b = if b then pos 1 else pos 0

-- the value of an operator: relations give 0 or 1, quotients are cut towards zero, and a right shift rounds down
abbrev pub value_of : DataModel → Op → Scalar → ℤ → ℤ → Result ℤ Ub
value_of m O.Add s a b = settled m s (a +ℤ b)
value_of m O.Sub s a b = settled m s (a -ℤ b)
value_of m O.Mul s a b = settled m s (a *ℤ b)
value_of m O.Div s a b = after_division m s a b (int_div a b)
value_of m O.Rem s a b = after_division m s a b (int_rem a b)
value_of m O.Shl s a b = if is_count m s b then shifted_left m s a (unsigned_abs b) else Err Shift
value_of m O.Shr s a b = if is_count m s b then Ok (int_shr a (unsigned_abs b)) else Err Shift
value_of m O.And s a b = Ok (bitwise bit_and m s a b)
value_of m O.Or s a b = Ok (bitwise bit_or m s a b)
value_of m O.Xor s a b = Ok (bitwise bit_xor m s a b)
value_of m O.Lt s a b = Ok (truth (int_lt a b))
value_of m O.Le s a b = Ok (truth (int_le a b))
value_of m O.Gt s a b = Ok (truth (int_lt b a))
value_of m O.Ge s a b = Ok (truth (int_le b a))
value_of m O.Eq s a b = Ok (truth (int_eq a b))
value_of m O.Ne s a b = Ok (truth (not (int_eq a b)))

abbrev pub IsShift : Op → Type 0
IsShift O.Shl = Unit {0}
IsShift O.Shr = Unit {0}
IsShift o = ⊥

-- The right operand is a value of the operation's type. That of a shift may be a value of any type.
abbrev pub IsRightOperand : DataModel → Op → Scalar → ℤ → Type 0
IsRightOperand m o s b = IsValue m s b ⊎ (IsShift o × ((t : Scalar) × IsValue m t b))

-- the kinds of undefined behaviour are numbered from 1
abbrev pub number_of_kind : Ub → ℕ
number_of_kind U.Overflow = 1
number_of_kind U.ZeroDivisor = 2
number_of_kind U.Quotient = 3
number_of_kind U.Shift = 4
number_of_kind U.Move = 5
number_of_kind U.Ended = 6
number_of_kind U.Null = 7
number_of_kind U.NoCell = 8
number_of_kind U.Unset = 9
number_of_kind U.Sealed = 10
number_of_kind U.Unsequenced = 11
number_of_kind U.Unrelated = 12
number_of_kind U.NoValue = 13
