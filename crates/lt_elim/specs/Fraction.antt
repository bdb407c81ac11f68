-- Fractions in lowest terms, as long as their numbers are within the limit.
use Rattle.std.specs.Prelude.{ℕ, ℤ, pos, neg_ℤ, ◌+ℤ◌, ◌*ℤ◌, ◌*◌, ◌/◌, int_lt, int_le, Bool, ◌&&◌, ◌||◌, if◌then◌else◌, unsigned_abs, Option, Some, None}
use Rattle.lt_elim.specs.Divisor.{gcd_of, quotient, passes}

-- a numerator over a positive denominator
pub record Fraction : Type 0 where
  pub over : ℤ
  pub under : ℕ

abbrev pub fraction : ℤ → ℕ → Fraction
fraction p q = record { over = p; under = q }

abbrev pub whole : ℤ → Fraction
whole z = fraction z 1

-- the fraction, unless there is a limit and one of its numbers passes it
abbrev pub limited_to : Bool → Fraction → Option Fraction
limited_to limited f = if limited && (passes f.over || passes (pos f.under)) then None else Some f

-- A factor is cancelled against the denominator, by their greatest common divisor g, before it is multiplied.
abbrev pub times_by : ℕ → Bool → ℤ → Fraction → Option Fraction
times_by g limited factor f = limited_to limited (fraction (quotient factor g *ℤ f.over) (f.under / g))

abbrev pub times : Bool → ℤ → Fraction → Option Fraction
times limited factor f = times_by (gcd_of (unsigned_abs factor) f.under) limited factor f

abbrev pub reduced_by : ℕ → ℤ → ℕ → Fraction
reduced_by g p q = fraction (quotient p g) (q / g)

abbrev pub reduced : ℤ → ℕ → Fraction
reduced p q = reduced_by (gcd_of (unsigned_abs p) q) p q

-- the sum of p and q over a common multiple of their denominators, reduced
abbrev pub sum_over : Bool → ℤ → ℤ → ℕ → Option Fraction
sum_over limited p q multiple =
    if limited && (passes (pos multiple) || passes p || passes q || passes (p +ℤ q)) then None else Some (reduced (p +ℤ q) multiple)

-- Fractions are added over the least common multiple of their denominators; g is the greatest common divisor of these.
abbrev pub plus_by : ℕ → Bool → Fraction → Fraction → Option Fraction
plus_by g limited e f = sum_over limited (e.over *ℤ pos (f.under / g)) (f.over *ℤ pos (e.under / g)) (e.under / g * f.under)

abbrev pub plus : Bool → Fraction → Fraction → Option Fraction
plus limited e f = plus_by (gcd_of e.under f.under) limited e f

-- The fraction negated and divided by a number other than 0, which is cancelled against the numerator, by their greatest
-- common divisor g, before it is multiplied.
abbrev pub negated_over_by : ℕ → Bool → Fraction → ℤ → Option Fraction
negated_over_by g limited f divisor =
    limited_to limited (fraction (if int_lt (pos 0) divisor then neg_ℤ (quotient f.over g) else quotient f.over g) (f.under * (unsigned_abs divisor / g)))

abbrev pub negated_over : Bool → Fraction → ℤ → Option Fraction
negated_over limited f divisor = negated_over_by (gcd_of (unsigned_abs f.over) (unsigned_abs divisor)) limited f divisor

abbrev pub is_at_most : Fraction → Fraction → Bool
is_at_most e f = int_le (e.over *ℤ pos f.under) (f.over *ℤ pos e.under)

abbrev pub greater : Fraction → Fraction → Fraction
greater e f = if is_at_most f e then e else f

abbrev pub lesser : Fraction → Fraction → Fraction
lesser e f = if is_at_most e f then e else f
