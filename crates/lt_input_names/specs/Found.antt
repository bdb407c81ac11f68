-- What maps of names have.
use Rattle.std.specs.Prelude.{ℕ, List, Option}
use Rattle.std.specs.Str.{bytes_eq}
use Rattle.std.specs.Borrow.{Bor}
use Rattle.std.specs.HashMap.{HashMap, get_by}

-- what a map has for a name
abbrev pub found_in : {V S : Type 0} → HashMap (Bor (List ℕ)) V S → List ℕ → Option V
found_in map name = get_by (λ key. bytes_eq name key.now) map
