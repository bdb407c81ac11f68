-- The values of C's integer types under a data model.
use Rattle.std.specs.Prelude.{ℕ, Bool, true, false, ℤ, pos, negsuc, ◌+ℤ◌, ◌-ℤ◌, ◌≤ℤ◌, ◌-◌, ◌^◌, if◌then◌else◌}
use Rattle.std.specs.Int.{int_rem_euclid}
use Rattle.std.specs.Ordering.{int_eq}
use Rattle.lt_model.specs.declared.scalar.DataModel.{DataModel}
use Rattle.lt_model.specs.declared.scalar.DataModel.TheVariants.{Ilp32, Lp64, Llp64, Ilp32U, Lp64U, Llp64U}
use Rattle.lt_model.specs.declared.scalar.Scalar.{Scalar}
use Rattle.lt_model.specs.declared.scalar.Scalar.TheVariants as S

-- bits of `long`
abbrev pub long_width : DataModel → ℕ
long_width Ilp32 = 32
long_width Lp64 = 64
long_width Llp64 = 32
long_width Ilp32U = 32
long_width Lp64U = 64
long_width Llp64U = 32

-- bits of a pointer
abbrev pub pointer_width : DataModel → ℕ
pointer_width Ilp32 = 32
pointer_width Lp64 = 64
pointer_width Llp64 = 64
pointer_width Ilp32U = 32
pointer_width Lp64U = 64
pointer_width Llp64U = 64

-- whether plain `char` is signed, C11 6.2.5p15
abbrev pub char_is_signed : DataModel → Bool
char_is_signed Ilp32 = true
char_is_signed Lp64 = true
char_is_signed Llp64 = true
char_is_signed Ilp32U = false
char_is_signed Lp64U = false
char_is_signed Llp64U = false

-- bits of a type
abbrev pub width_of : DataModel → Scalar → ℕ
width_of m S.Bool = 1
width_of m S.Char = 8
width_of m S.SChar = 8
width_of m S.UChar = 8
width_of m S.Short = 16
width_of m S.UShort = 16
width_of m S.Int = 32
width_of m S.UInt = 32
width_of m S.Long = long_width m
width_of m S.ULong = long_width m
width_of m S.LLong = 64
width_of m S.ULLong = 64

-- whether a type has negative values
abbrev pub is_signed : DataModel → Scalar → Bool
is_signed m S.Bool = false
is_signed m S.Char = char_is_signed m
is_signed m S.SChar = true
is_signed m S.UChar = false
is_signed m S.Short = true
is_signed m S.UShort = false
is_signed m S.Int = true
is_signed m S.UInt = false
is_signed m S.Long = true
is_signed m S.ULong = false
is_signed m S.LLong = true
is_signed m S.ULLong = false

abbrev pub least_of : DataModel → Scalar → ℤ
least_of m s = if is_signed m s then negsuc (2 ^ (width_of m s - 1) - 1) else pos 0

abbrev pub greatest_of : DataModel → Scalar → ℤ
greatest_of m s = if is_signed m s then pos (2 ^ (width_of m s - 1) - 1) else pos (2 ^ width_of m s - 1)

-- z is a value of the type
pub record IsValue (m : DataModel) (s : Scalar) (z : ℤ) : Type 0 where
  pub above : least_of m s ≤ℤ z
  pub below : z ≤ℤ greatest_of m s

-- z, reduced modulo 2 ^ w into the type's range
abbrev pub wrapped : DataModel → Scalar → ℤ → ℤ
wrapped m s z = least_of m s +ℤ int_rem_euclid (z -ℤ least_of m s) (pos (2 ^ width_of m s))

abbrev pub convert_of : DataModel → Scalar → ℤ → ℤ
convert_of m S.Bool z = if int_eq z (pos 0) then pos 0 else pos 1
convert_of m s z = wrapped m s z

-- ---- types that the data model chooses

-- the type of `sizeof`, C11 6.5.3.4
abbrev pub size_type : DataModel → Scalar
size_type Ilp32 = S.UInt
size_type Lp64 = S.ULong
size_type Llp64 = S.ULLong
size_type Ilp32U = S.UInt
size_type Lp64U = S.ULong
size_type Llp64U = S.ULLong

-- the type of a difference of pointers, C11 6.5.6
abbrev pub difference_type : DataModel → Scalar
difference_type Ilp32 = S.Int
difference_type Lp64 = S.Long
difference_type Llp64 = S.LLong
difference_type Ilp32U = S.Int
difference_type Lp64U = S.Long
difference_type Llp64U = S.LLong
