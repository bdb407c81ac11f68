-- Which systems are decided.
use Rattle.std.specs.Prelude.{ℕ, ◌+◌, ◌*◌, ◌^◌, ◌≤◌, max, unsigned_abs, List, [], ◌∷◌}
use Rattle.lt_lin.specs.declared.row.Row.{Row}
use Rattle.lt_lin.specs.Terms.{Term}
use Rattle.lt_elim.specs.Decision.{variables}

-- the greatest size of a factor
abbrev pub greatest_factor : List Term → ℕ
greatest_factor [] = 0
greatest_factor (t ∷ ts) = max (unsigned_abs t.1) (greatest_factor ts)

-- the greatest size of a number
abbrev pub greatest : List Row → ℕ
greatest [] = 0
greatest (r ∷ rs) = max (max (unsigned_abs r.constant) (greatest_factor r.terms)) (greatest rs)

-- The number of variables plus one, times the greatest size of a number, is within the bound.
unfoldable pub CanDecide : List Row → Type 0
CanDecide rows = (variables rows + 1) * greatest rows ≤ 2 ^ 125
