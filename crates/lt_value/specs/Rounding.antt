-- Rounding: the ends of a set move outwards to thresholds, and then inwards to members.
use Rattle.std.specs.Prelude.{◌≡◌, ℕ, ℤ, pos, negsuc, ◌≤ℤ◌, ◌+◌, ◌-◌, ◌^◌, ◌==◌, ◌⊎◌, List, if◌then◌else◌, count_by, int_le}
use Rattle.std.specs.List.{Contains}
use lib.Count.{count_leading_zeros}
use Rattle.lt_value.specs.declared.num.Num.{Num}
use Rattle.lt_value.specs.Num.{IsEmpty}
use Rattle.lt_value.specs.Entry.{entry_of, rest_of, IsIn}

-- The thresholds that count are values of some integer type of C.
abbrev pub IsThreshold : List ℤ → ℤ → Type 0
IsThreshold ts t = Contains ts t × (negsuc (2 ^ 63 - 1) ≤ℤ t) × (t ≤ℤ pos (2 ^ 64 - 1))

-- a threshold up to the least member, and one from the greatest on
abbrev pub IsUnder : List ℤ → ℤ → ℤ → Type 0
IsUnder ts lo t = IsThreshold ts t × (t ≤ℤ lo)

abbrev pub IsOver : List ℤ → ℤ → ℤ → Type 0
IsOver ts hi t = IsThreshold ts t × (hi ≤ℤ t)

-- The least member moves down to the next threshold; below all thresholds it stays.
abbrev pub IsLowEnd : List ℤ → ℤ → ℤ → Type 0
IsLowEnd ts lo low = (IsUnder ts lo low × ((t : ℤ) → IsUnder ts lo t → t ≤ℤ low)) ⊎ ((low ≡ lo) × IsEmpty (IsUnder ts lo))

-- The greatest member moves up to the next threshold; above all thresholds it stays.
abbrev pub IsHighEnd : List ℤ → ℤ → ℤ → Type 0
IsHighEnd ts hi high = (IsOver ts hi high × ((t : ℤ) → IsOver ts hi t → high ≤ℤ t)) ⊎ ((high ≡ hi) × IsEmpty (IsOver ts hi))

-- z is between the moved ends and congruent to the members; a single number stays
pub record IsRounded (ts : List ℤ) (n : Num) (z : ℤ) : Type 0 where
  pub low : ℤ
  pub high : ℤ
  pub low_is : IsLowEnd ts n.lo low
  pub high_is : IsHighEnd ts n.hi high
  pub among : IsIn (entry_of low high n.step (rest_of n)) z

-- ---- a number that falls where rounded sets grow
-- the bits of a step; a single number counts as one bit more than the longest step
abbrev pub step_bits : ℕ → ℕ
step_bits step = if step == 0 then 66 else 66 - count_leading_zeros 66 step

-- the thresholds up to the least member, those from the greatest on, and the bits of the step
abbrev pub height : List ℤ → Num → ℕ
height ts n = count_by (λ t. int_le t n.lo) ts + count_by (λ t. int_le n.hi t) ts + step_bits n.step
