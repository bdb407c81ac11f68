-- What rows say.
use Rattle.std.specs.Prelude.{◌≡◌, ℕ, ℤ, pos, ◌+ℤ◌, ◌≤ℤ◌, ◌<ℤ◌, List, [], ◌∷◌, All, ◌⊎◌}
use Rattle.lt_lin.specs.declared.row.Row.{Row}
use Rattle.lt_lin.specs.Terms.{sum_at}

-- The sum of the terms and the constant is at least 0, where v gives the variables.
pub record IsTrueAt (v : ℕ → ℤ) (r : Row) : Type 0 where
  pub holds : pos 0 ≤ℤ (sum_at v r.terms +ℤ r.constant)

-- The whole numbers that v gives make every row true.
abbrev pub Satisfies : (ℕ → ℤ) → List Row → Type 0
Satisfies v rows = All (IsTrueAt v) rows

-- a negative constant without variables
abbrev pub IsContradiction : Row → Type 0
IsContradiction r = (r.terms ≡ []) × (r.constant <ℤ pos 0)

-- one of the rows is a contradiction
abbrev pub HasContradiction : List Row → Type 0
HasContradiction [] = ⊥
HasContradiction (r ∷ rs) = IsContradiction r ⊎ HasContradiction rs
