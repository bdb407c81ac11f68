-- Greatest common divisors, and numbers whose size is too great.
use Rattle.std.specs.Prelude.{ℕ, zero, suc, ℤ, pos, ◌^◌, ◌%◌, ◌==◌, nat_lt, Bool, true, false, unsigned_abs, List, [], ◌∷◌}
use Rattle.std.specs.Int.{int_div_euclid}
use Rattle.lt_lin.specs.Terms.{Term}

-- by Euclid; the fuel is enough, since b falls
abbrev pub gcd_by : ℕ → ℕ → ℕ → ℕ
gcd_by zero a b = a
gcd_by (suc fuel) a b = elim (b == 0) [ true ↦ a | false ↦ gcd_by fuel b (a % b) ]

-- the greatest common divisor of two numbers
unfoldable pub gcd_of : ℕ → ℕ → ℕ
gcd_of a b = gcd_by (suc b) a b

-- the greatest common divisor of the factors, 0 where there are none
abbrev pub content : List Term → ℕ
content [] = 0
content (t ∷ ts) = gcd_of (unsigned_abs t.1) (content ts)

-- z divided by d, rounded down
abbrev pub quotient : ℤ → ℕ → ℤ
quotient z d = int_div_euclid z (pos d)

-- The size of the number passes 2 ^ 120.
abbrev pub passes : ℤ → Bool
passes z = nat_lt (2 ^ 120) (unsigned_abs z)
