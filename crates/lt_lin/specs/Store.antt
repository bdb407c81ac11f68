-- Rows one after another in one list of terms.
use Rattle.std.specs.Prelude.{◌≡◌, ℕ, ◌-◌, ◌≤◌, List, [], ◌∷◌, take, drop, zero, suc}
use Rattle.lt_lin.specs.declared.row.Row.{Row}
use Rattle.lt_lin.specs.declared.known.Ending.{Ending}
use Rattle.lt_lin.specs.Terms.{Term, IsOrdered}

-- the rows that end there, the first of which begins at `from`
abbrev pub rows_from : List Term → ℕ → List Ending → List Row
rows_from terms from [] = []
rows_from terms from (e ∷ es) =
    record { terms = take (e.end - from) (drop from terms); constant = e.constant } ∷ rows_from terms e.end es

-- The ends ascend from `from` to `to`.
abbrev pub AreEnds : ℕ → List Ending → ℕ → Type 0
AreEnds from [] to = from ≡ to
AreEnds from (e ∷ es) to = (from ≤ e.end) × AreEnds e.end es to

abbrev pub AllOrdered : List Row → Type 0
AllOrdered [] = Unit {0}
AllOrdered (r ∷ rs) = IsOrdered r.terms × AllOrdered rs

-- rows that are known, and the places that there are for rows
pub record Stored : Type 0 where
  pub rows : List Row
  pub limit : ℕ

-- terms of a sum, and the places that there are for them
pub record Summed : Type 0 where
  pub terms : List Term
  pub limit : ℕ

-- where the row numbered i begins, or where the next row would
abbrev pub start_at : ℕ → List Ending → ℕ → ℕ
start_at from [] i = from
start_at from (e ∷ es) zero = from
start_at from (e ∷ es) (suc i) = start_at e.end es i
