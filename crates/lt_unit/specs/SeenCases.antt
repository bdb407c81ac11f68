-- The map of the values that cases have, beside their list.
use Rattle.std.specs.Prelude.{◌≡◌, ℤ, if◌then◌else◌, List, Some, None}
use Rattle.std.specs.HashMap.{HashMap, get}
use Rattle.std.specs.Ordering.{int_eq}
use Rattle.std.specs.List.{list_any}

-- the map has these values
pub record Knows {S : Type 0} (values : List ℤ) (places : HashMap ℤ (Unit {0}) S) : Type 0 where
  pub at : (z : ℤ) → get int_eq places z ≡ (if list_any (int_eq z) values then Some tt else None)
