-- What maps have for places and names.
use Rattle.std.specs.Prelude.{◌≡◌, ℕ, ◌&&◌, not, Bool, List, filter, find, reverse, Option, is_some, option_map}
use Rattle.std.specs.List.{list_any}
use Rattle.std.specs.Borrow.{Bor}
use Rattle.std.specs.HashMap.{HashMap, get_by}
use Rattle.std.specs.HashSet.{HashSet, contains_by}
use Rattle.std.specs.Str.{bytes_eq}
use Rattle.lt_model.specs.declared.input.CellSet.{CellSet}
use Rattle.lt_model.specs.declared.input.FreeCell.{FreeCell}
use Rattle.lt_model.specs.declared.input.Place.{Place}
use Rattle.lt_model.specs.declared.input.StubRange.{StubRange}
use Rattle.lt_model.specs.declared.input.StubSet.{StubSet}
use Rattle.lt_entry.specs.Conditions.{same_place}
use Rattle.lt_entry.specs.Meeting.{place_set}
pub use Rattle.lt_input_wants.specs.Places.{Key, is_key_of, has_place}

-- what a map has for a place
abbrev pub set_at : {S : Type 0} → HashMap Key (Bor CellSet) S → Place → Option CellSet
set_at map place = option_map (λ it. it.now) (get_by (is_key_of place) map)

-- what is set last at a place
abbrev pub last_at : Place → List CellSet → Option CellSet
last_at place its = find (λ it. same_place (place_set it) place) (reverse its)

-- The map has for each place what is set last there.
abbrev pub HasLast : {S : Type 0} → List CellSet → HashMap Key (Bor CellSet) S → Type 0
HasLast its map = (place : Place) → set_at map place ≡ last_at place its

-- the free cell that a map has for a place
abbrev pub free_at : {S : Type 0} → HashMap Key (Bor FreeCell) S → Place → Option FreeCell
free_at map place = option_map (λ cell. cell.now) (get_by (is_key_of place) map)

-- The map has for each place the first free cell there.
abbrev pub HasFirstCells : {S : Type 0} → List FreeCell → HashMap Key (Bor FreeCell) S → Type 0
HasFirstCells cells map = (place : Place) → free_at map place ≡ find (λ cell. same_place cell.at place) cells

-- The places are those of the cells for which the map has something.
abbrev pub HasPlacesSet : {R S : Type 0} → HashMap Key (Bor CellSet) R → List FreeCell → HashSet Key S → Type 0
HasPlacesSet map cells places =
    (place : Place) → has_place places place ≡ list_any (λ cell. same_place cell.at place && is_some (set_at map cell.at)) cells

-- what is set at other places
abbrev pub elsewhere : {S : Type 0} → HashSet Key S → List CellSet → List CellSet
elsewhere places its = filter (λ it. not (has_place places (place_set it))) its

-- what a map has for a name
abbrev pub values_for : {S : Type 0} → HashMap (Bor (List ℕ)) (Bor StubSet) S → List ℕ → Option StubSet
values_for map name = option_map (λ it. it.now) (get_by (λ key. bytes_eq name key.now) map)

-- whether a set has a name
abbrev pub has_name : {S : Type 0} → HashSet (Bor (List ℕ)) S → List ℕ → Bool
has_name names name = contains_by (λ key. bytes_eq name key.now) names

-- The map has for each name the first values for it.
abbrev pub HasFirst : {S : Type 0} → List StubSet → HashMap (Bor (List ℕ)) (Bor StubSet) S → Type 0
HasFirst its map = (name : List ℕ) → values_for map name ≡ find (λ it. bytes_eq it.name name) its

-- The names are those of the ranges.
abbrev pub HasNames : {S : Type 0} → List StubRange → HashSet (Bor (List ℕ)) S → Type 0
HasNames ranges names = (name : List ℕ) → has_name names name ≡ list_any (λ range. bytes_eq range.name name) ranges

-- the values for other names
abbrev pub for_others : {S : Type 0} → HashSet (Bor (List ℕ)) S → List StubSet → List StubSet
for_others names its = filter (λ it. not (has_name names it.name)) its
