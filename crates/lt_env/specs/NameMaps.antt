-- Maps by names, beside the lists whose look-ups they serve.
use Rattle.std.specs.Prelude.{◌≡◌, ℕ, Bool, if◌then◌else◌, List, Option, Some, None}
use Rattle.std.specs.Global.{Vec}
use Rattle.std.specs.HashMap.{HashMap, get_by}
use Rattle.std.specs.Str.{bytes_eq}
use Rattle.lt_tree.specs.Typing.Operations.{is_among}

-- what a map has for a name
abbrev pub at_name : {V S : Type 0} → HashMap (Vec ℕ) V S → List ℕ → Option V
at_name m w = get_by (λ key. bytes_eq w key.items) m

-- a map with nothing at its names has it or not
abbrev pub member : Bool → Option (Unit {0})
member is_there = if is_there then Some tt else None

-- A map has for each name what is found in a list.
pub record Agrees {V S : Type 0} (m : HashMap (Vec ℕ) V S) (found : List ℕ → Option V) : Type 0 where
  pub at : (w : List ℕ) → at_name m w ≡ found w

-- The second map has these names, and else what the first has.
pub record HasNames {S : Type 0} (names : List (List ℕ)) (before after : HashMap (Vec ℕ) (Unit {0}) S) : Type 0 where
  pub at : (w : List ℕ) → at_name after w ≡ (if is_among w names then Some tt else at_name before w)
