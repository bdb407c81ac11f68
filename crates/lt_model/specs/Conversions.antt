-- Integer promotions and usual arithmetic conversions, C11 6.3.1.1 and 6.3.1.8, by rank and by the values that a type has.
use Rattle.std.specs.Prelude.{ℕ, Bool, ◌&&◌, if◌then◌else◌, int_le, nat_le, nat_lt}
use Rattle.lt_model.specs.declared.scalar.DataModel.{DataModel}
use Rattle.lt_model.specs.declared.scalar.Scalar.{Scalar}
use Rattle.lt_model.specs.declared.scalar.Scalar.TheVariants as S
use Rattle.lt_model.specs.Scalar.{is_signed, least_of, greatest_of}

-- the conversion rank: a signed type and its unsigned one have the same, and so have the character types
abbrev pub rank_of : Scalar → ℕ
rank_of S.Bool = 0
rank_of S.Char = 1
rank_of S.SChar = 1
rank_of S.UChar = 1
rank_of S.Short = 2
rank_of S.UShort = 2
rank_of S.Int = 3
rank_of S.UInt = 3
rank_of S.Long = 4
rank_of S.ULong = 4
rank_of S.LLong = 5
rank_of S.ULLong = 5

-- whether the first type can represent all values of the second
abbrev pub represents : DataModel → Scalar → Scalar → Bool
represents m t s = int_le (least_of m t) (least_of m s) && int_le (greatest_of m s) (greatest_of m t)

-- A type of no greater rank than `int` becomes `int` if that can represent all its values, else `unsigned int`.
abbrev pub promoted : DataModel → Scalar → Scalar
promoted m s = if nat_le (rank_of s) (rank_of S.Int) then (if represents m S.Int s then S.Int else S.UInt) else s

-- the unsigned type that corresponds to a signed one
abbrev pub unsigned_of : Scalar → Scalar
unsigned_of S.Char = S.UChar
unsigned_of S.SChar = S.UChar
unsigned_of S.Short = S.UShort
unsigned_of S.Int = S.UInt
unsigned_of S.Long = S.ULong
unsigned_of S.LLong = S.ULLong
unsigned_of s = s

-- A signed and an unsigned type: the unsigned one, if its rank is no less; else the signed one, if that can represent all values
-- of the unsigned one; else the unsigned type that corresponds to the signed one.
abbrev pub mixed : DataModel → Scalar → Scalar → Scalar
mixed m s u = if nat_le (rank_of s) (rank_of u) then u else (if represents m s u then s else unsigned_of s)

-- the type of greater rank
abbrev pub higher : Scalar → Scalar → Scalar
higher a b = if nat_lt (rank_of a) (rank_of b) then b else a

-- Two promoted types: of two signed or two unsigned ones that of greater rank.
abbrev pub common : DataModel → Scalar → Scalar → Scalar
common m a b =
    if is_signed m a then (if is_signed m b then higher a b else mixed m a b) else (if is_signed m b then mixed m b a else higher a b)

-- the type of an operation on operands of these types
abbrev pub usual_of : DataModel → Scalar → Scalar → Scalar
usual_of m a b = common m (promoted m a) (promoted m b)
