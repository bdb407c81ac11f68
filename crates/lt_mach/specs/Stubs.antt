-- Where the values for a function without a body stand.
use Rattle.std.specs.Prelude.{ℕ, Option, Some, None}

-- the place at a number, if there is one
abbrev pub flat : Option (Option ℕ) → Option ℕ
flat None = None
flat (Some place) = place
