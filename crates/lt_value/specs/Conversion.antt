-- What a conversion to an integer type gives of a set of numbers, C11 6.3.1.2 and 6.3.1.3.
use Rattle.std.specs.Prelude.{◌≡◌, ℤ}
use Rattle.std.specs.Bool.{MatchBool}
use Rattle.lt_model.specs.declared.scalar.DataModel.{DataModel}
use Rattle.lt_model.specs.declared.scalar.Scalar.{Scalar}
use Rattle.lt_model.specs.declared.scalar.Scalar.TheVariants as S
use Rattle.lt_model.specs.Scalar.{convert_of}
use Rattle.lt_value.specs.declared.num.Num.{Num}
use Rattle.lt_value.specs.Num.{Holds}
use Rattle.lt_value.specs.Entry.{rest_of, written, is_within, IsReduced}

-- z is what some member becomes
abbrev pub IsConverted : DataModel → Scalar → Num → ℤ → Type 0
IsConverted m s n z = (x : ℤ) × Holds n x × (convert_of m s x ≡ z)

-- To `_Bool`, what the members become. A set within the range of another type stays, and one that isn't becomes all of the
-- range that is congruent to the rest modulo the common divisor of the step and 2 ^ w.
abbrev pub IsConversion : DataModel → Scalar → Num → ℤ → Type 0
IsConversion m S.Bool n z = IsConverted m S.Bool n z
IsConversion m s n z = MatchBool (is_within m s (written n)) (Holds n z) (IsReduced m s n.step (rest_of n) z)
