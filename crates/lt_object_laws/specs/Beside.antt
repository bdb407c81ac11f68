-- Memory in which further blocks stand among the others.
use Rattle.std.specs.Prelude.{◌≡◌, ℕ, ◌+◌, Bool, true, false, List, [], ◌∷◌, map, Option, Some, None}
use Rattle.lt_model.specs.declared.cell.Address.{Address}
use Rattle.lt_model.specs.declared.cell.Content.{Content}
use Rattle.lt_model.specs.declared.cell.Content.TheVariants as content
use Rattle.lt_model.specs.declared.cell.StoredCell.{StoredCell}
use Rattle.lt_model.specs.Memory.{Memory, Block, living_cells}

-- ---- what blocks hold, whose blocks have the numbers that r gives

abbrev pub address_with : (ℕ → ℕ) → Option Address → Option Address
address_with r None = None
address_with r (Some at) = Some (record { block = r at.block; offset = at.offset })

abbrev pub content_with : (ℕ → ℕ) → Content → Content
content_with r content.Unset = content.Unset
content_with r (content.Number z) = content.Number z
content_with r (content.Address a) = content.Address (address_with r a)

abbrev pub cell_with : (ℕ → ℕ) → StoredCell → StoredCell
cell_with r cell = record { offset = cell.offset; ty = cell.ty; holds = content_with r cell.holds }

abbrev pub block_with : (ℕ → ℕ) → Block → Block
block_with r block = record { alive = block.alive; writable = block.writable; size = block.size; cells = map (cell_with r) block.cells }

-- ---- further blocks

-- The second memory is the first with further blocks among the others, of which so many cells are alive: each flag says of one of its blocks, in
-- order, whether it is a further one. The last flags are of blocks that aren't made yet. Addresses in the others have the numbers that r gives.
pub data HasFurtherBlocks (r : ℕ → ℕ) : List Bool → List Bool → ℕ → Memory → Memory → Type 0 where
  a_further_one : {further rest : List Bool} {cells : ℕ} {memory other : Memory} (block : Block) → block.alive ≡ true
      → HasFurtherBlocks r further rest cells memory other → HasFurtherBlocks r (true ∷ further) rest (living_cells block + cells) memory (block ∷ other)
  another : {further rest : List Bool} {cells : ℕ} {memory other : Memory} (block : Block)
      → HasFurtherBlocks r further rest cells memory other → HasFurtherBlocks r (false ∷ further) rest cells (block ∷ memory) (block_with r block ∷ other)
  not_yet : {rest : List Bool} → HasFurtherBlocks r rest rest 0 [] []
  no_further_ones : {memory other : Memory} → other ≡ map (block_with r) memory → HasFurtherBlocks r [] [] 0 memory other
