-- What maps and sets have for places.
use Rattle.std.specs.Prelude.{ℕ, ◌==◌, ◌&&◌, Bool, List, Option}
use Rattle.std.specs.Borrow.{Bor}
use Rattle.std.specs.HashMap.{HashMap, get_by}
use Rattle.std.specs.HashSet.{HashSet, contains_by}
use Rattle.std.specs.Str.{bytes_eq}
use Rattle.lt_model.specs.declared.input.Place.{Place}

-- a place as a key: the name of its object, and its offset
abbrev pub Key : Type 0
Key = Bor (List ℕ) × ℕ

abbrev pub is_key_of : Place → Key → Bool
is_key_of place key = bytes_eq place.root key.0.now && (place.offset == key.1)

-- what a map has for a place
abbrev pub found_at : {V S : Type 0} → HashMap Key V S → Place → Option V
found_at map place = get_by (is_key_of place) map

-- whether a set has a place
abbrev pub has_place : {S : Type 0} → HashSet Key S → Place → Bool
has_place places place = contains_by (is_key_of place) places
