-- When lines refute rows.
use Rattle.std.specs.Prelude.{◌≡◌, ℕ, ℤ, pos, neg_ℤ, ◌+ℤ◌, ◌*ℤ◌, ◌≤ℤ◌, ◌<ℤ◌, Bool, true, false, IsTrue, List, [], ◌∷◌, ◌++◌, Some, slice_get, All, ◌⊎◌}
use Rattle.lt_lin.specs.declared.row.Row.{Row}
use Rattle.lt_lin.specs.Terms.{Term, IsOrdered, factor, negated, scaled, Fits}
use Rattle.lt_lin.specs.Rows.{HasContradiction}
use Rattle.lt_lin.specs.Lines.{Lines, last, combination, division, split}

-- From `before` on, the pairs add up to `sum` in one part of the rows, in the order of the pairs: each pair's row is
-- known, its multiplier is not negative, and each product and each sum fits.
abbrev pub SumsTo : (Row → ℤ) → List Row → ℤ → List (ℕ × ℤ) → ℤ → Type 0
SumsTo part known before [] sum = before ≡ sum
SumsTo part known before (p ∷ ps) sum =
    (r : Row) × (slice_get known p.0 ≡ Some r) × (pos 0 ≤ℤ p.1)
    × Fits (p.1 *ℤ part r) × Fits (before +ℤ p.1 *ℤ part r) × SumsTo part known (before +ℤ p.1 *ℤ part r) ps sum

-- From the row `before` on, the pairs add up to the row r, per variable and in the constant.
pub record IsSumOnto (known : List Row) (before : Row) (pairs : List (ℕ × ℤ)) (r : Row) : Type 0 where
  pub ordered : IsOrdered r.terms
  pub factors : (x : ℕ) → SumsTo (λ q. factor x q.terms) known (factor x before.terms) pairs (factor x r.terms)
  pub constant : SumsTo (λ q. q.constant) known before.constant pairs r.constant

-- the row of which the sum is 0
abbrev pub zero_row : Row
zero_row = record { terms = []; constant = pos 0 }

-- r is the sum of the pairs' rows, each times its multiplier.
abbrev pub IsCombination : List Row → List (ℕ × ℤ) → Row → Type 0
IsCombination known pairs r = IsSumOnto known zero_row pairs r

-- d is positive and divides every factor of q; r is q with the factors and the constant divided by d, the constant
-- rounded down.
pub record IsQuotient (q : Row) (d : ℤ) (r : Row) : Type 0 where
  pub positive : pos 0 <ℤ d
  pub terms : q.terms ≡ scaled d r.terms
  pub at_most : (d *ℤ r.constant) ≤ℤ q.constant
  pub above : q.constant <ℤ (d *ℤ r.constant +ℤ d)

-- the row numbered i is known, and r is that row divided by d
abbrev pub IsDivision : List Row → ℕ → ℤ → Row → Type 0
IsDivision known i d r = (q : Row) × (slice_get known i ≡ Some q) × IsQuotient q d r

-- the sum of the terms is at most k
abbrev pub low_row : List Term → ℤ → Row
low_row ts k = record { terms = negated ts; constant = k }

-- the sum of the terms is at least k + 1
abbrev pub high_row : List Term → ℤ → Row
high_row ts k = record { terms = ts; constant = neg_ℤ (k +ℤ pos 1) }

-- k + 1 and the negation of each factor fit
abbrev pub CanSplit : List Term → ℤ → Type 0
CanSplit ts k = Fits (k +ℤ pos 1) × All (λ t. Fits (neg_ℤ t.1)) ts

-- Each line is valid in turn, where the rows `known` are known at first, and at the end a row that is known there is a
-- contradiction, or the list holds a split; `had_split` says that lines before these did. A combination or a division
-- gives one more row to the lines after it, a split none: its row and the rows of its side are known in that side alone.
abbrev pub RefutesAfter : Bool → List Row → Lines → Type 0
RefutesAfter had_split known last = IsTrue had_split ⊎ HasContradiction known
RefutesAfter had_split known (combination pairs rest) =
    (r : Row) × IsCombination known pairs r × RefutesAfter had_split (known ++ r ∷ []) rest
RefutesAfter had_split known (division i d rest) =
    (r : Row) × IsDivision known i d r × RefutesAfter had_split (known ++ r ∷ []) rest
RefutesAfter had_split known (split ts k low high rest) =
    CanSplit ts k
    × RefutesAfter false (known ++ low_row ts k ∷ []) low
    × RefutesAfter false (known ++ high_row ts k ∷ []) high
    × RefutesAfter true known rest

-- the lines refute the rows
abbrev pub Refutes : List Row → Lines → Type 0
Refutes rows lines = RefutesAfter false rows lines
