-- The room that a check of lines needs.
use Rattle.std.specs.Prelude.{ℕ, ℤ, ◌+◌, ◌≤◌, List, [], ◌∷◌, ◌++◌, Option, Some, None, slice_get, length}
use Rattle.lt_lin.specs.declared.row.Row.{Row}
use Rattle.lt_lin.specs.Lines.{Lines, last, combination, division, split}
use Rattle.lt_lin.specs.Refutation.{IsCombination, IsDivision, CanSplit, low_row, high_row, Refutes}

-- a place for each row, and one for each of its terms
abbrev pub places : List Row → ℕ
places [] = 0
places (r ∷ rs) = 1 + length r.terms + places rs

-- the terms of the row numbered i
abbrev pub terms_in : List Row → ℕ → ℕ
terms_in known i = terms_of (slice_get known i)
  where
    terms_of : Option Row → ℕ
    terms_of None = 0
    terms_of (Some r) = length r.terms

-- the terms that a combination adds up
abbrev pub terms_added : List Row → List (ℕ × ℤ) → ℕ
terms_added known [] = 0
terms_added known (p ∷ ps) = terms_in known p.0 + terms_added known ps

-- There are places enough for the rows that are known at one time, as far as the lines are valid, and for the terms that
-- a line adds up.
abbrev pub HasPlaces : ℕ → List Row → Lines → Type 0
HasPlaces n known last = Unit {0}
HasPlaces n known (combination pairs rest) =
    (places known + 1 + terms_added known pairs ≤ n)
    × ((r : Row) → IsCombination known pairs r → HasPlaces n (known ++ r ∷ []) rest)
HasPlaces n known (division i d rest) =
    (places known + 1 + terms_in known i ≤ n)
    × ((r : Row) → IsDivision known i d r → HasPlaces n (known ++ r ∷ []) rest)
HasPlaces n known (split ts k low high rest) =
    CanSplit ts k →
    (places known + 1 + length ts ≤ n)
    × HasPlaces n (known ++ low_row ts k ∷ []) low
    × (Refutes (known ++ low_row ts k ∷ []) low →
    HasPlaces n (known ++ high_row ts k ∷ []) high
    × (Refutes (known ++ high_row ts k ∷ []) high → HasPlaces n known rest))

-- Room n is enough to check the lines against the rows.
abbrev pub IsRoomFor : ℕ → List Row → Lines → Type 0
IsRoomFor n rows lines = (places rows ≤ n) × HasPlaces n rows lines
