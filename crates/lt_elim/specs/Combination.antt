-- Normalised rows, and the combination of two rows without a variable.
use Rattle.std.specs.Prelude.{ℕ, zero, suc, ℤ, pos, ◌+ℤ◌, ◌*ℤ◌, ◌/◌, Bool, false, ◌||◌, if◌then◌else◌, unsigned_abs, List, [], ◌∷◌, ◌++◌, map}
use Rattle.std.specs.Ordering.{int_eq}
use Rattle.lt_lin.specs.declared.row.Row.{Row}
use Rattle.lt_lin.specs.Terms.{Term, factor}
use Rattle.lt_elim.specs.Divisor.{gcd_of, content, quotient, passes}

-- the row with its factors and its constant divided by d, the constant rounded down; by 0 it stays as it is
abbrev pub divided : ℕ → Row → Row
divided zero r = r
divided (suc d) r = record { terms = map (λ t. (t.0, quotient t.1 (suc d))) r.terms; constant = quotient r.constant (suc d) }

-- The factors are divided by their greatest common divisor, and the constant as well, rounded down. A row without
-- variables stays as it is.
abbrev pub normalised : Row → Row
normalised r = divided (content r.terms) r

-- the terms and one more, unless its factor is 0
abbrev pub with_term : List Term → ℕ → ℤ → List Term
with_term ts x c = if int_eq c (pos 0) then ts else ts ++ (x, c) ∷ []

-- the terms of the variables below n that have a factor other than 0
abbrev pub terms_below : ℕ → (ℕ → ℤ) → List Term
terms_below zero factors = []
terms_below (suc n) factors = with_term (terms_below n factors) n (factors n)

-- Two numbers of no common divisor by which the rows are multiplied, so that their sum has no v: `raising` has a
-- positive factor of v, `lowering` a negative one.
pub record Multipliers : Type 0 where
  pub of_raising : ℤ
  pub of_lowering : ℤ

-- for factors of the sizes a and b
abbrev pub multipliers_of : ℕ → ℕ → Multipliers
multipliers_of a b = record { of_raising = pos (b / gcd_of a b); of_lowering = pos (a / gcd_of a b) }

abbrev pub multipliers : ℕ → Row → Row → Multipliers
multipliers v raising lowering = multipliers_of (unsigned_abs (factor v raising.terms)) (unsigned_abs (factor v lowering.terms))

-- the sum of the products of one part of the two rows: of the factors of a variable, or of the constants
abbrev pub sum_of : Multipliers → ℤ → ℤ → ℤ
sum_of m raising lowering = m.of_raising *ℤ raising +ℤ m.of_lowering *ℤ lowering

-- the least positive combination of the two rows without v, the last variable that stands in them
unfoldable pub combination : ℕ → Row → Row → Row
combination v raising lowering = record {
  terms = terms_below v (λ x. sum_of (multipliers v raising lowering) (factor x raising.terms) (factor x lowering.terms));
  constant = sum_of (multipliers v raising lowering) raising.constant lowering.constant;
}

-- A product or their sum passes the limit, in one part of the two rows.
abbrev pub passes_in : Multipliers → ℤ → ℤ → Bool
passes_in m raising lowering =
    passes (m.of_raising *ℤ raising) || passes (m.of_lowering *ℤ lowering) || passes (sum_of m raising lowering)

abbrev pub any_below : ℕ → (ℕ → Bool) → Bool
any_below zero test = false
any_below (suc n) test = any_below n test || test n

-- A number of the combination passes the limit: of a variable, v included, or of the constants.
unfoldable pub is_wide : ℕ → Row → Row → Bool
is_wide v raising lowering =
    any_below (suc v) (λ x. passes_in (multipliers v raising lowering) (factor x raising.terms) (factor x lowering.terms))
    || passes_in (multipliers v raising lowering) raising.constant lowering.constant
