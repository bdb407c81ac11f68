-- What is kept of what lines say of cells and of functions without a body.
use Rattle.std.specs.Prelude.{◌≡◌, ℕ, ◌==◌, ◌&&◌, Bool, true, false, not, List, map, Option, option_map, unwrap_or}
use Rattle.std.specs.List.{list_any}
use Rattle.std.specs.Borrow.{Bor}
use Rattle.std.specs.HashMap.{HashMap, get_by}
use Rattle.std.specs.Str.{bytes_eq}
use Rattle.lt_model.specs.declared.input.NeedTerm.{NeedTerm}
use Rattle.lt_model.specs.declared.input.Place.{Place}
use Rattle.lt_model.specs.declared.input.StubRange.{StubRange}
use Rattle.lt_model.specs.declared.input.Want.{Want}
use Rattle.lt_model.specs.declared.scalar.DataModel.{DataModel}
use Rattle.lt_tree.specs.Typing.Entities.{or_else}
use Rattle.lt_tree.specs.Typing.Types.{scalar_of, target_of}
use Rattle.lt_entry.specs.Written.{Numeral, value_of, TargetWord}
use Rattle.lt_entry.specs.Naming.{Scope, Named}
use Rattle.lt_entry.specs.SpecificationLines.{Addend, Line}
use Rattle.lt_entry.specs.Conditions.{names_cell, is_range, have_targets, fits_in, Stub}
use Rattle.lt_entry.specs.Meaning.{first_some, want_by, want_said, stub_range_by, factor_of}
use Rattle.lt_entry.specs.declared.specification_line.StubLine.{StubLine}
use Rattle.lt_entry.specs.Views.{numeral_view}
use Rattle.lt_input_names.specs.declared.part.Part.{Part}
use Rattle.lt_input_names.specs.Found.{found_in}
use Rattle.lt_input_wants.specs.Stubs.{whole_range}
pub use Rattle.lt_input_wants.specs.Places.{Key, is_key_of, found_at}

-- ---- cells

-- The map has what the lines say of each cell.
abbrev pub HasSaid : {S : Type 0} → Scope → List Line → HashMap Key Want S → Type 0
HasSaid scope lines wants = (place : Place) → found_at wants place ≡ want_said scope lines place

-- The map has what the line says too, of each cell of which it had nothing.
abbrev pub Says : {S : Type 0} → Scope → Line → (old new : HashMap Key Want S) → Type 0
Says scope line old new = (place : Place) → found_at new place ≡ or_else (found_at old place) (want_by scope place line)

-- Whether the line fits behind lines of which the map has what they say; where it does, the map has what it says too.
pub record IsSaid {S : Type 0} (scope : Scope) (line : Line) (old new : HashMap Key Want S) (it : Bool) : Type 0 where
  pub fits : (before : List Line) → HasSaid scope before old → it ≡ fits_in scope before line
  pub says : it ≡ true → Says scope line old new
  pub stays : it ≡ false → new ≡ old

-- a part may have the range, and none of these lines names it
abbrev pub may_range : Scope → (before : List Line) → (low high : Numeral) → Named → Bool
may_range scope before low high it =
    is_range scope.program.model low high (scalar_of it.type) && not (list_any (names_cell scope it.place) before)

-- a part may point to these targets, and none of these lines names it
abbrev pub may_point : Scope → (before : List Line) → List TargetWord → Named → Bool
may_point scope before targets it = have_targets scope targets (target_of it.type) && not (list_any (names_cell scope it.place) before)

-- ---- functions without a body

-- what a line says of the function of a name
abbrev pub range_by : List ℕ → StubLine → StubRange
range_by name l = record { name = name; lo = value_of (numeral_view l.low); hi = value_of (numeral_view l.high) }

-- The map has what the lines say of each function.
abbrev pub HasRanges : {S : Type 0} → List Line → HashMap (Bor (List ℕ)) StubLine S → Type 0
HasRanges lines ranges = (name : List ℕ) → option_map (range_by name) (found_in ranges name) ≡ first_some (map (stub_range_by name) lines)

-- the range that a map has for a function, or all values of its type
abbrev pub range_in : {S : Type 0} → DataModel → HashMap (Bor (List ℕ)) StubLine S → Stub → StubRange
range_in model ranges stub = unwrap_or (option_map (range_by stub.name) (found_in ranges stub.name)) (whole_range model stub)

-- Whether the line fits behind lines of which the map has what they say; where it does, the map has what it says too.
pub record IsRanged {S : Type 0} (scope : Scope) (line : Line) (old new : HashMap (Bor (List ℕ)) StubLine S) (it : Bool) : Type 0 where
  pub fits : (before : List Line) → HasRanges before old → it ≡ fits_in scope before line
  pub says : it ≡ true → (name : List ℕ) → option_map (range_by name) (found_in new name) ≡ or_else (option_map (range_by name) (found_in old name)) (stub_range_by name line)
  pub stays : it ≡ false → new ≡ old

-- ---- requirements

-- a part, with the factor of an addend that names it
abbrev pub part_term : Addend → Part → NeedTerm
part_term addend part = record { at = part.place; factor = factor_of addend }
