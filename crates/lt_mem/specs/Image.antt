-- What contracts see of a memory, and how what a memory keeps makes it up: only living objects are kept.
use Rattle.std.specs.Prelude.{◌≡◌, ◌≤◌, ℕ, Bool, true, List, map, length, Option, Some, None, All}
use Rattle.std.specs.List.{range_with_len}
use Rattle.std.specs.BTreeMap.{BTreeMap, get}
use Rattle.std.specs.Ordering.{nat_cmp}
use Rattle.lt_model.specs.declared.scalar.DataModel.{DataModel}
use Rattle.lt_model.specs.declared.cell.Content.{Content}
use Rattle.lt_model.specs.declared.cell.Shape.{Shape}
use Rattle.lt_model.specs.declared.cell.StoredCell.{StoredCell}
use Rattle.lt_model.specs.Memory.{Block, new_cell, ended_block, cells_alive, most_cells}
use Rattle.lt_mem.specs.Cells.{IsFit}

-- a memory: its data model and its objects, in the order in which they were made
pub record Image : Type 0 where
  pub model : DataModel
  pub blocks : List Block

-- a living object
pub record Body : Type 0 where
  pub writable : Bool
  pub size : ℕ
  pub cells : List StoredCell

abbrev pub living_block : Body → Block
living_block body = record { alive = true; writable = body.writable; size = body.size; cells = body.cells }

-- a living object of this shape
abbrev pub new_body : Shape → Bool → Bool → Body
new_body shape zeroed writable = record { writable = writable; size = shape.size; cells = map (new_cell zeroed) shape.cells }

-- ---- the objects of a memory, where the living ones stand under their numbers

abbrev pub block_of : Option Body → Block
block_of None = ended_block
block_of (Some body) = living_block body

abbrev pub block_at : BTreeMap ℕ Body → ℕ → Block
block_at living k = block_of (get nat_cmp living k)

-- the first n objects
abbrev pub blocks_of : BTreeMap ℕ Body → ℕ → List Block
blocks_of living n = map (block_at living) (range_with_len 0 n)

-- what always holds of what a memory keeps: no number that is still to be given has an object; the cells that are alive are
-- counted and no more than may be; what waits to be copied is fit, and there is a place for each cell of an object
pub record IsKept (living : BTreeMap ℕ Body) (made alive : ℕ) (scratch : List Content) : Type 0 where
  pub unmade : (k : ℕ) → made ≤ k → get nat_cmp living k ≡ None
  pub counted : alive ≡ cells_alive (blocks_of living made)
  pub few : alive ≤ most_cells
  pub fit : All IsFit scratch
  pub room : (k : ℕ) (body : Body) → get nat_cmp living k ≡ Some body → length body.cells ≤ length scratch
