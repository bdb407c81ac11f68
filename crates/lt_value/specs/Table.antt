-- The table of the operators: what each gives on two sets of numbers, by their ends, steps and rests.
use Rattle.std.specs.Prelude.{◌≡◌, ℕ, ℤ, pos, ◌+ℤ◌, ◌-ℤ◌, ◌*ℤ◌, ◌≤ℤ◌, ◌<ℤ◌, ◌*◌, ◌-◌, ◌^◌, ◌⊎◌, ◌&&◌, max, if◌then◌else◌, unsigned_abs, neg_ℤ, int_le, int_lt, int_div, bit_and, bit_or, bit_xor, Ok}
use Rattle.std.specs.Int.{int_min, int_max, int_shr}
use lib.Count.{count_leading_zeros}
use Rattle.lt_model.specs.declared.operator.Op.{Op}
use Rattle.lt_model.specs.declared.operator.Op.TheVariants as O
use Rattle.lt_model.specs.declared.scalar.DataModel.{DataModel}
use Rattle.lt_model.specs.declared.scalar.Scalar.{Scalar}
use Rattle.lt_model.specs.Scalar.{IsValue}
use Rattle.lt_model.specs.Operators.{bitwise, value_of}
use Rattle.lt_value.specs.declared.num.Num.{Num}
use Rattle.lt_value.specs.Num.{Holds}
use Rattle.lt_value.specs.Refine.{Relates}
use Rattle.lt_value.specs.Entry.{Entry, entry_of, written, is_single, gcd_of, range_of, IsSettled}

-- ---- ends of ends
abbrev pub least_corner : (ℤ → ℤ → ℤ) → Entry → Entry → ℤ
least_corner f p q = int_min (int_min (f p.lo q.lo) (f p.lo q.hi)) (int_min (f p.hi q.lo) (f p.hi q.hi))

abbrev pub greatest_corner : (ℤ → ℤ → ℤ) → Entry → Entry → ℤ
greatest_corner f p q = int_max (int_max (f p.lo q.lo) (f p.lo q.hi)) (int_max (f p.hi q.lo) (f p.hi q.hi))

-- ---- sums, differences and products
abbrev pub sum_row : Entry → Entry → Entry
sum_row p q = entry_of (p.lo +ℤ q.lo) (p.hi +ℤ q.hi) (gcd_of p.step q.step) (p.rest +ℤ q.rest)

abbrev pub difference_row : Entry → Entry → Entry
difference_row p q = entry_of (p.lo -ℤ q.hi) (p.hi -ℤ q.lo) (gcd_of p.step q.step) (p.rest -ℤ q.rest)

-- by a single k: the other's step times the size of k, and its rest times k; else step 1
abbrev pub product_step : Entry → Entry → ℕ
product_step p q = if is_single q then p.step * unsigned_abs q.lo else (if is_single p then q.step * unsigned_abs p.lo else 1)

abbrev pub product_rest : Entry → Entry → ℤ
product_rest p q = if is_single q then p.rest *ℤ q.lo else (if is_single p then q.rest *ℤ p.lo else pos 0)

abbrev pub product : ℤ → ℤ → ℤ
product x y = x *ℤ y

abbrev pub product_row : Entry → Entry → Entry
product_row p q = entry_of (least_corner product p q) (greatest_corner product p q) (product_step p q) (product_rest p q)

-- ---- quotients and remainders
-- d is the least or the greatest number of a set
abbrev pub IsEndOf : (ℤ → Type 0) → ℤ → Type 0
IsEndOf set d = set d × (((y : ℤ) → set y → d ≤ℤ y) ⊎ ((y : ℤ) → set y → y ≤ℤ d))

abbrev pub IsPositiveIn : Num → ℤ → Type 0
IsPositiveIn q y = Holds q y × (pos 0 <ℤ y)

abbrev pub IsNegativeIn : Num → ℤ → Type 0
IsNegativeIn q y = Holds q y × (y <ℤ pos 0)

-- an end of p by an end of the divisors of one sign
abbrev pub IsEndQuotient : Num → Num → ℤ → Type 0
IsEndQuotient p q v = (d : ℤ) × (IsEndOf (IsPositiveIn q) d ⊎ IsEndOf (IsNegativeIn q) d) × ((v ≡ int_div p.lo d) ⊎ (v ≡ int_div p.hi d))

-- from the least of a set to its greatest
abbrev pub IsBetween : (ℤ → Type 0) → ℤ → Type 0
IsBetween set z = (u : ℤ) × (v : ℤ) × set u × set v × (u ≤ℤ z) × (z ≤ℤ v)

-- lo and hi are the least and the greatest of a set
pub record IsSpan (set : ℤ → Type 0) (lo hi : ℤ) : Type 0 where
  pub first : set lo
  pub last : set hi
  pub above : (v : ℤ) → set v → lo ≤ℤ v
  pub below : (v : ℤ) → set v → v ≤ℤ hi

-- the greatest size of a divisor, less 1
abbrev pub greatest_remainder : Entry → ℤ
greatest_remainder q = pos (max (unsigned_abs q.lo) (unsigned_abs q.hi) - 1)

-- the least remainder of dividends from lo on, and the greatest of dividends up to hi
abbrev pub low_remainder : ℤ → ℤ → ℤ
low_remainder lo most = if int_lt lo (pos 0) then int_max lo (neg_ℤ most) else pos 0

abbrev pub high_remainder : ℤ → ℤ → ℤ
high_remainder hi most = if int_lt (pos 0) hi then int_min hi most else pos 0

-- by a single divisor k, the common divisor of the step and k
abbrev pub remainder_row : Entry → Entry → Entry
remainder_row p q =
    entry_of
    (low_remainder p.lo (greatest_remainder q))
    (high_remainder p.hi (greatest_remainder q))
    (if is_single q then gcd_of p.step (unsigned_abs q.lo) else 1)
    (if is_single q then p.rest else pos 0)

-- ---- shifts
abbrev pub power : ℤ → ℕ
power c = 2 ^ unsigned_abs c

abbrev pub left_shift_row : Entry → Entry → Entry
left_shift_row p q =
    entry_of
    (p.lo *ℤ pos (power q.lo))
    (p.hi *ℤ pos (power q.hi))
    (if is_single q then p.step * power q.lo else 1)
    (if is_single q then p.rest *ℤ pos (power q.lo) else pos 0)

abbrev pub right_shift : ℤ → ℤ → ℤ
right_shift x c = int_shr x (unsigned_abs c)

abbrev pub right_shift_row : Entry → Entry → Entry
right_shift_row p q = entry_of (least_corner right_shift p q) (greatest_corner right_shift p q) 1 (pos 0)

-- ---- bits
-- two single numbers give the exact number
abbrev pub exact_or_row : (ℕ → ℕ → ℕ) → DataModel → Scalar → Entry → Entry → Entry → Entry
exact_or_row f m s p q row = if is_single p && is_single q then entry_of (bitwise f m s p.lo q.lo) (bitwise f m s p.lo q.lo) 0 (bitwise f m s p.lo q.lo) else row

-- to the least greatest number of the operands that are never negative
abbrev pub and_row : DataModel → Scalar → Entry → Entry → Entry
and_row m s p q =
    if int_le (pos 0) p.lo
    then (if int_le (pos 0) q.lo then entry_of (pos 0) (int_min p.hi q.hi) 1 (pos 0) else entry_of (pos 0) p.hi 1 (pos 0))
    else (if int_le (pos 0) q.lo then entry_of (pos 0) q.hi 1 (pos 0) else range_of m s)

-- the least 2 ^ k - 1 that n doesn't pass
abbrev pub mask_of : ℕ → ℕ
mask_of n = 2 ^ (64 - count_leading_zeros 64 n) - 1

abbrev pub or_row : DataModel → Scalar → Entry → Entry → Entry
or_row m s p q =
    if int_le (pos 0) p.lo && int_le (pos 0) q.lo
    then entry_of (pos 0) (pos (mask_of (unsigned_abs (int_max p.hi q.hi)))) 1 (pos 0)
    else range_of m s

-- ---- relations
-- 1, 0 or both, by all pairs
abbrev pub IsAnswer : DataModel → Op → Scalar → Num → Num → ℤ → Type 0
IsAnswer m o s p q z = (x : ℤ) × (y : ℤ) × Holds p x × Holds q y × (value_of m o s x y ≡ Ok z)

-- some pair of members stands in the relation
abbrev pub IsRelated : Op → Num → Num → Type 0
IsRelated o p q = (x : ℤ) × (y : ℤ) × Holds p x × Holds q y × Relates o x y

-- the relation that holds where another fails
abbrev pub opposite_of : Op → Op
opposite_of O.Lt = O.Ge
opposite_of O.Le = O.Gt
opposite_of O.Gt = O.Le
opposite_of O.Ge = O.Lt
opposite_of O.Eq = O.Ne
opposite_of O.Ne = O.Eq
opposite_of o = o

-- ---- the table
abbrev pub IsResult : DataModel → Op → Scalar → Num → Num → ℤ → Type 0
IsResult m O.Add s p q z = IsSettled m s (sum_row (written p) (written q)) z
IsResult m O.Sub s p q z = IsSettled m s (difference_row (written p) (written q)) z
IsResult m O.Mul s p q z = IsSettled m s (product_row (written p) (written q)) z
IsResult m O.Div s p q z = IsBetween (IsEndQuotient p q) z × IsValue m s z
IsResult m O.Rem s p q z = IsSettled m s (remainder_row (written p) (written q)) z
IsResult m O.Shl s p q z = IsSettled m s (left_shift_row (written p) (written q)) z
IsResult m O.Shr s p q z = IsSettled m s (right_shift_row (written p) (written q)) z
IsResult m O.And s p q z = IsSettled m s (exact_or_row bit_and m s (written p) (written q) (and_row m s (written p) (written q))) z
IsResult m O.Or s p q z = IsSettled m s (exact_or_row bit_or m s (written p) (written q) (or_row m s (written p) (written q))) z
IsResult m O.Xor s p q z = IsSettled m s (exact_or_row bit_xor m s (written p) (written q) (or_row m s (written p) (written q))) z
IsResult m o s p q z = IsAnswer m o s p q z
