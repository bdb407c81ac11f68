-- Types of constants, C11 6.4.4.1 and 6.4.4.4, and constant expressions, C11 6.6.
use Rattle.std.specs.Prelude.{ℕ, ℤ, pos, negsuc, ◌+◌, ◌+ℤ◌, ◌*ℤ◌, nat_le, ◌==◌, ◌&&◌, ◌||◌, Bool, true, false, not, if◌then◌else◌, List, [], ◌∷◌, count_by, Option, Some, None, option_map, Result, Ok, Err}
use Rattle.std.specs.Ordering.{int_eq}
use Rattle.std.specs.List.{list_any}
use Rattle.std.specs.Str.{byte}
use Rattle.lt_model.specs.declared.scalar.DataModel.{DataModel}
use Rattle.lt_model.specs.declared.scalar.Scalar.{Scalar}
use Rattle.lt_model.specs.declared.scalar.Scalar.TheVariants as S
use Rattle.lt_model.specs.declared.operator.Op.{Op}
use Rattle.lt_model.specs.declared.operator.Ub.{Ub}
use Rattle.lt_model.specs.Scalar.{is_signed, convert_of}
use Rattle.lt_model.specs.Conversions.{rank_of}
use Rattle.lt_model.specs.Operators.{is_value, value_of, truth}
use Rattle.lt_tree.specs.Constants.{integer_parts, is_suffix, character_byte}

-- ---- the type of a constant: the first of its list that has the value

abbrev pub is_unsigned_mark : ℕ → Bool
is_unsigned_mark b = (b == byte "u") || (b == byte "U")

abbrev pub is_long_mark : ℕ → Bool
is_long_mark b = (b == byte "l") || (b == byte "L")

-- what begins with a zero is octal or hexadecimal
abbrev pub is_decimal : List ℕ → Bool
is_decimal [] = false
is_decimal (b ∷ bytes) = not (b == byte "0")

-- Whether a type is in the list of a constant with this suffix: its rank is that of `int`, or of as many `long` as the suffix has, or more; with
-- a `u` it is unsigned; without one it is signed, or also unsigned where the constant isn't decimal.
abbrev pub is_listed : DataModel → Bool → List ℕ → Scalar → Bool
is_listed m decimal suffix s =
    let unsigned = list_any is_unsigned_mark suffix in
    nat_le (3 + count_by is_long_mark suffix) (rank_of s) && (if is_signed m s then not unsigned else unsigned || not decimal)

abbrev pub integer_types : List Scalar
integer_types = S.Int ∷ S.UInt ∷ S.Long ∷ S.ULong ∷ S.LLong ∷ S.ULLong ∷ []

abbrev pub first_that_has : DataModel → Bool → List ℕ → ℤ → List Scalar → Option Scalar
first_that_has m decimal suffix z [] = None
first_that_has m decimal suffix z (s ∷ types) =
    if is_listed m decimal suffix s && is_value m s z then Some s else first_that_has m decimal suffix z types

-- a type and a value of it
pub record TypedConstant : Type 0 where
  pub type : Scalar
  pub value : ℤ

abbrev pub of_type : ℤ → Scalar → TypedConstant
of_type z s = record { type = s; value = z }

abbrev pub integer_of : DataModel → Bool → ℕ × List ℕ → Option TypedConstant
integer_of m decimal (value, suffix) =
    if is_suffix suffix then option_map (of_type (pos value)) (first_that_has m decimal suffix (pos value) integer_types) else None

-- the value of a character, as a plain `char` has it
abbrev pub char_value : DataModel → ℕ → ℤ
char_value m b = convert_of m S.Char (pos b)

-- an integer or character constant, as written; none where it fits no type of its list
abbrev pub constant_of : DataModel → List ℕ → Option TypedConstant
constant_of m [] = None
constant_of m (b ∷ bytes) =
    if b == byte "'" then option_map (λ c. of_type (char_value m c) S.Int) (character_byte bytes) else integer_of m (is_decimal (b ∷ bytes)) (integer_parts (b ∷ bytes))

-- ---- constant expressions

-- What an expression is as a constant. Each operand of a constant expression is of constant form; a fault counts only where it is evaluated.
pub data Constancy : Type 0 where
  -- of no constant form
  varying : Constancy
  -- of constant form, with a fault where it is evaluated
  faulty : Constancy
  -- an integer constant expression with this value
  number : (value : ℤ) → Constancy
  -- `(void *)0`, a null pointer constant
  null_constant : Constancy
  -- any other constant null pointer
  null_address : Constancy
  -- the address of an object that is there from the start, at an offset
  address : (object : ℕ) (offset : ℕ) → Constancy

abbrev pub is_number : Constancy → Bool
is_number (number z) = true
is_number _ = false

-- of the form of an integer constant expression
abbrev pub is_form : Constancy → Bool
is_form (number z) = true
is_form faulty = true
is_form _ = false

abbrev pub is_zero : Constancy → Bool
is_zero (number z) = int_eq z (pos 0)
is_zero _ = false

-- a null pointer constant, C11 6.3.2.3p3
abbrev pub is_null_constant : Constancy → Bool
is_null_constant null_constant = true
is_null_constant c = is_zero c

abbrev pub value_or_fault : Result ℤ Ub → Constancy
value_or_fault (Ok z) = number z
value_or_fault (Err kind) = faulty

abbrev pub converted : DataModel → Scalar → Constancy → Constancy
converted m s (number z) = number (convert_of m s z)
converted m s faulty = faulty
converted m s _ = varying

abbrev pub applied : DataModel → Op → Scalar → Constancy → Constancy → Constancy
applied m op s (number a) (number b) = value_or_fault (value_of m op s a b)
applied m op s a b = if is_form a && is_form b then faulty else varying

-- an operator between integers, whose operands are converted to the type of the operation first; the right one of a shift isn't
abbrev pub operated : DataModel → Op → Scalar → Scalar → Constancy → Constancy → Constancy
operated m op s r a b = applied m op s (converted m s a) (converted m r b)

abbrev pub negated : Constancy → Constancy
negated (number z) = number (truth (int_eq z (pos 0)))
negated faulty = faulty
negated _ = varying

-- `a && b`, where b is evaluated if a isn't 0, and `a || b`, where it is if a is 0
abbrev pub truth_of : Constancy → Constancy
truth_of c = negated (negated c)

abbrev pub connected : (settles : ℤ → Bool) → Constancy → Constancy → Constancy
connected settles (number z) b = if is_form b then (if settles z then truth_of (number z) else truth_of b) else varying
connected settles faulty b = if is_form b then faulty else varying
connected settles _ b = varying

abbrev pub is_false : ℤ → Bool
is_false z = int_eq z (pos 0)

abbrev pub is_true : ℤ → Bool
is_true z = not (int_eq z (pos 0))

-- `a ? b : c`, of which one operand is evaluated
abbrev pub chosen : Constancy → Constancy → Constancy → Constancy
chosen (number z) b c = if is_form b && is_form c then (if is_true z then b else c) else varying
chosen faulty b c = if is_form b && is_form c then faulty else varying
chosen _ b c = varying

-- an address that many bytes further on, within an object of this size or one past its end
abbrev pub moved_to : ℕ → ℕ → ℤ → Constancy
moved_to object size (negsuc n) = varying
moved_to object size (pos n) = if nat_le n size then address object n else varying

-- An address, moved by a constant number of elements; the sizes are that of its object and that of an element.
abbrev pub moved_by : (ℕ → ℕ) → ℕ → Constancy → Constancy → Constancy
moved_by sizes size (address object offset) (number z) = moved_to object (sizes object) (pos offset +ℤ (z *ℤ pos size))
moved_by sizes size _ _ = varying
