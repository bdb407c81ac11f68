-- Free cells, by what a map has for them.
use Rattle.std.specs.Prelude.{ℕ, List, unwrap_or}
use Rattle.std.specs.HashMap.{HashMap}
use Rattle.lt_model.specs.declared.cell.ShapeCell.{ShapeCell}
use Rattle.lt_model.specs.declared.input.FreeCell.{FreeCell}
use Rattle.lt_model.specs.declared.input.Place.{Place}
use Rattle.lt_model.specs.declared.input.Want.{Want}
use Rattle.lt_model.specs.declared.scalar.DataModel.{DataModel}
use Rattle.lt_entry.specs.Meaning.{any_value, zero_start}
use Rattle.lt_spec_reader.specs.Said.{Key, found_at}

-- the place in an object of this name
abbrev pub place_at : (name : List ℕ) → (offset : ℕ) → Place
place_at name offset = record { root = name; offset = offset }

-- what a cell may hold
abbrev pub want_in : {S : Type 0} → HashMap Key Want S → DataModel → (name : List ℕ) → (pointer : Want) → ShapeCell → Want
want_in wants model name pointer it = unwrap_or (found_at wants (place_at name it.offset)) (any_value model it.ty pointer)

-- a cell of an object of this name
abbrev pub cell_in : {S : Type 0} → HashMap Key Want S → DataModel → (name : List ℕ) → (pointer : Want) → ShapeCell → FreeCell
cell_in wants model name pointer it = record {
  at = place_at name it.offset;
  ty = it.ty;
  want = want_in wants model name pointer it;
  start = zero_start it.ty;
}
