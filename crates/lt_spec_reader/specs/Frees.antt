-- What is looked up of cells that requirements may name, and of parameters for which a line says where they point.
use Rattle.std.specs.Prelude.{◌≡◌, ℕ, ◌++◌, ◌||◌, Bool, false, List, [], ◌∷◌, map, Option, Some, None, is_some}
use Rattle.std.specs.List.{list_any}
use Rattle.std.specs.Borrow.{Bor}
use Rattle.std.specs.HashSet.{HashSet, contains_by}
use Rattle.std.specs.Str.{bytes_eq}
use Rattle.lt_model.specs.declared.input.Place.{Place}
use Rattle.lt_entry.specs.Lines.{Row}
use Rattle.lt_entry.specs.Naming.{Scope, block_root, root_among}
use Rattle.lt_entry.specs.Conditions.{points_at, is_ranged_by}
use Rattle.lt_input_names.specs.Stubs.{has_name}
use Rattle.lt_spec_reader.specs.declared.free.Free.{Free}
pub use Rattle.lt_input_wants.specs.Places.{Key, has_place}

-- whether it is this name, if it is one
abbrev pub is_name_of : List ℕ → Option (List ℕ) → Bool
is_name_of name None = false
is_name_of name (Some it) = bytes_eq it name

-- The names are those behind `points` of rows that say where it points.
abbrev pub HasPointed : {S : Type 0} → List Row → HashSet (Bor (List ℕ)) S → Type 0
HasPointed rows names = (name : List ℕ) → has_name names name ≡ list_any (λ row. points_at name row.words) rows

-- The names are those of parameters and blocks.
abbrev pub HasOwn : {S : Type 0} → Scope → HashSet (Bor (List ℕ)) S → Type 0
HasOwn scope own = (name : List ℕ) → has_name own name ≡ is_some (root_among (scope.parameters ++ map block_root scope.blocks) name)

-- The places are those that rows with `range` name.
abbrev pub HasRanged : {S : Type 0} → Scope → List Row → HashSet Key S → Type 0
HasRanged scope rows ranged = (place : Place) → has_place ranged place ≡ list_any (λ row. is_ranged_by scope place row.words) rows

pub record AreFree (scope : Scope) (rows : List Row) (free : Free) : Type 0 where
  pub own : HasOwn scope free.own
  pub ranged : HasRanged scope rows free.ranged

-- the first of a list
abbrev pub first_of : {A : Type 0} → List A → Option A
first_of [] = None
first_of (a ∷ others) = Some a
