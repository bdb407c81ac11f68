-- How what names stand for grows along the lines of a specification.
use Rattle.std.specs.Prelude.{◌≡◌, ℕ, ◌&&◌, Bool, true, List, Some, is_some}
use Rattle.std.specs.List.{list_all}
use Rattle.lt_entry.specs.Written.{TargetWord, to_null, to_place}
use Rattle.lt_entry.specs.Naming.{Root, Scope, roots, root_among}
use Rattle.lt_entry.specs.SpecificationLines.{Line, range_line, points_line}

-- What has a name keeps it.
pub record Grows (old new : Scope) : Type 0 where
  pub program : new.program ≡ old.program
  pub roots : (name : List ℕ) (root : Root) → root_among (roots old) name ≡ Some root → root_among (roots new) name ≡ Some root

-- an object has the name
abbrev pub has_root : Scope → List ℕ → Bool
has_root scope name = is_some (root_among (roots scope) name)

abbrev pub is_settled_target : Scope → TargetWord → Bool
is_settled_target scope to_null = true
is_settled_target scope (to_place place) = has_root scope place.name

-- The names on which hangs what a line says of cells are those of objects.
abbrev pub is_settled : Scope → Line → Bool
is_settled scope (range_line place low high) = has_root scope place.name
is_settled scope (points_line place targets) = has_root scope place.name && list_all (is_settled_target scope) targets
is_settled scope line = true
