-- Places that are marked.
use Rattle.std.specs.Prelude.{◌≡◌, ◌||◌, not, Bool}
use Rattle.lt_model.specs.declared.input.Place.{Place}
use Rattle.lt_entry.specs.Conditions.{same_place}
use Rattle.lt_input_wants.specs.declared.marked.MarkedPlaces.{MarkedPlaces}
use Rattle.lt_input_wants.specs.Places.{has_place}

abbrev pub is_marked : MarkedPlaces → Place → Bool
is_marked marked place = has_place marked.places place

-- whether the place is new, and that it is marked behind that
pub record Marks (place : Place) (old new : MarkedPlaces) (is_new : Bool) : Type 0 where
  pub added : is_new ≡ not (is_marked old place)
  pub places : (other : Place) → is_marked new other ≡ (same_place place other || is_marked old other)
