-- How free cells, what is set in them, and what functions without a body may give are found.
use Rattle.std.specs.Prelude.{◌≡◌, ℕ, ℤ, int_le, ◌&&◌, ◌||◌, not, Bool, true, List, Option, Some, None, IfSome}
use Rattle.std.specs.List.{list_all}
use Rattle.std.specs.HashMap.{HashMap, get_by}
use Rattle.std.specs.Borrow.{Bor}
use Rattle.std.specs.Str.{bytes_eq}
use Rattle.lt_model.specs.declared.input.Input.{Input}
use Rattle.lt_model.specs.declared.input.Spec.{Spec}
use Rattle.lt_model.specs.declared.input.StubRange.{StubRange}
use Rattle.lt_input_values.specs.declared.finder.Finder.{Finder}
use Rattle.lt_input_values.specs.declared.finder.Maps.{Maps}
use Rattle.lt_input_values.specs.Maps.{HasFirstCells, HasLast}

-- the number is within bounds; without them each is
abbrev pub is_within : Option (ℤ × ℤ) → ℤ → Bool
is_within None z = true
is_within (Some bounds) z = int_le bounds.0 z && int_le z bounds.1

abbrev pub is_in_range : StubRange → ℤ → Bool
is_in_range range z = int_le range.lo z && int_le z range.hi

-- the number is in each range of this name
abbrev pub may_give : List StubRange → List ℕ → ℤ → Bool
may_give ranges name z = list_all (λ range. not (bytes_eq name range.name) || is_in_range range z) ranges

-- The map has for each name the bounds of all its ranges.
abbrev pub HasBounds : {S : Type 0} → List StubRange → HashMap (Bor (List ℕ)) (ℤ × ℤ) S → Type 0
HasBounds ranges map = (name : List ℕ) (z : ℤ) → is_within (get_by (λ key. bytes_eq name key.now) map) z ≡ may_give ranges name z

-- The maps are those of the specification and the input.
pub record AreMaps (spec : Spec) (input : Input) (maps : Maps) : Type 0 where
  pub cells : HasFirstCells spec.cells maps.cells
  pub sets : HasLast input.cells maps.sets
  pub bounds : HasBounds spec.stubs maps.bounds

abbrev pub IsFinder : Finder → Type 0
IsFinder it = IfSome it.maps (AreMaps it.spec.now it.input.now)
