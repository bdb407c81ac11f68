-- What a row of the table of operators gives: ends, step and rest, and what is left of them in a type.
use Rattle.std.specs.Prelude.{ℕ, zero, suc, ℤ, pos, ◌+ℤ◌, ◌-ℤ◌, ◌≤ℤ◌, ◌<◌, ◌^◌, ◌%◌, ◌==◌, Bool, ◌&&◌, ◌||◌, if◌then◌else◌, unsigned_abs, int_le}
use Rattle.std.specs.Int.{◌∣◌}
use Rattle.std.specs.Bool.{MatchBool}
use Rattle.lt_model.specs.declared.scalar.DataModel.{DataModel}
use Rattle.lt_model.specs.declared.scalar.Scalar.{Scalar}
use Rattle.lt_model.specs.Scalar.{width_of, is_signed, least_of, greatest_of, IsValue}
use Rattle.lt_value.specs.declared.num.Num.{Num}

-- the numbers from lo to hi that are congruent to the rest modulo the step
pub record Entry : Type 0 where
  pub lo : ℤ
  pub hi : ℤ
  pub step : ℕ
  pub rest : ℤ

abbrev pub entry_of : ℤ → ℤ → ℕ → ℤ → Entry
entry_of lo hi step rest = record { lo = lo; hi = hi; step = step; rest = rest }

-- by step 0 this is the rest alone
abbrev pub IsCongruent : ℕ → ℤ → ℤ → Type 0
IsCongruent step rest z = step ∣ unsigned_abs (z -ℤ rest)

pub record IsIn (e : Entry) (z : ℤ) : Type 0 where
  pub above : e.lo ≤ℤ z
  pub below : z ≤ℤ e.hi
  pub congruent : IsCongruent e.step e.rest z

-- a `Num` as the table has it: a single k has step 0 and rest k
abbrev pub rest_of : Num → ℤ
rest_of n = if n.step == 0 then n.lo else pos n.rest

abbrev pub written : Num → Entry
written n = entry_of n.lo n.hi n.step (rest_of n)

abbrev pub is_single : Entry → Bool
is_single e = e.step == 0

-- the greatest common divisor by Euclid, which ends before the fuel does
abbrev pub gcd_by : ℕ → ℕ → ℕ → ℕ
gcd_by zero a b = a
gcd_by (suc fuel) a b = if b == 0 then a else gcd_by fuel b (a % b)

unfoldable pub gcd_of : ℕ → ℕ → ℕ
gcd_of a b = gcd_by (suc b) a b

-- all values of a type
abbrev pub range_of : DataModel → Scalar → Entry
range_of m s = entry_of (least_of m s) (greatest_of m s) 1 (pos 0)

abbrev pub is_within : DataModel → Scalar → Entry → Bool
is_within m s e = int_le (least_of m s) e.lo && int_le e.hi (greatest_of m s)

abbrev pub IsKept : DataModel → Scalar → Entry → ℤ → Type 0
IsKept m s e z = IsIn e z × IsValue m s z

-- the type's range by the common divisor of a step and 2 ^ w, and a rest
abbrev pub IsReduced : DataModel → Scalar → ℕ → ℤ → ℤ → Type 0
IsReduced m s step rest z = IsCongruent (gcd_of step (2 ^ width_of m s)) rest z × IsValue m s z

-- A signed result is met with the type's range, and an unsigned one that doesn't fit is reduced.
abbrev pub IsSettled : DataModel → Scalar → Entry → ℤ → Type 0
IsSettled m s e z = MatchBool (is_signed m s || is_within m s e) (IsKept m s e z) (IsReduced m s e.step e.rest z)

-- the least number from lo on that is congruent to the rest is skip above lo
pub record IsSkip (lo : ℤ) (step : ℕ) (rest : ℤ) (skip : ℕ) : Type 0 where
  pub congruent : IsCongruent step rest (lo +ℤ pos skip)
  pub below : skip < step
