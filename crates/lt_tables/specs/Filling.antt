-- The cells of objects by their offsets, while they get what they hold first.
use Rattle.std.specs.Prelude.{◌≡◌, ℕ, List, map}
use Rattle.std.specs.Ordering.{nat_cmp}
use Rattle.std.specs.BTreeMap.{BTreeMap, get}
use Rattle.lt_model.specs.declared.scalar.DataModel.{DataModel}
use Rattle.lt_model.specs.declared.cell.Content.{Content}
use Rattle.lt_model.specs.declared.cell.StoredCell.{StoredCell}
use Rattle.lt_model.specs.Memory.{as_type}
use Rattle.lt_meaning.specs.Runs.{place_among}

-- a map has for each offset the place of the first cell there
abbrev pub AreOffsets : BTreeMap ℕ ℕ → List StoredCell → Type 0
AreOffsets places cells = (n : ℕ) → get nat_cmp places n ≡ place_among 0 n (map (λ cell. cell.offset) cells)

-- a cell with a content, as the cell's type has it
abbrev pub filled : DataModel → Content → StoredCell → StoredCell
filled model c cell = record { offset = cell.offset; ty = cell.ty; holds = as_type model cell.ty c }
