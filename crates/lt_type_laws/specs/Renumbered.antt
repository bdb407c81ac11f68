-- Memory and inputs in whose cells types have the numbers that r gives.
use Rattle.std.specs.Prelude.{ℕ, map}
use Rattle.lt_model.specs.declared.cell.CellType.{CellType}
use Rattle.lt_model.specs.declared.cell.CellType.TheVariants.{Num, Pointer}
use Rattle.lt_model.specs.declared.cell.Shape.{Shape}
use Rattle.lt_model.specs.declared.cell.ShapeCell.{ShapeCell}
use Rattle.lt_model.specs.declared.cell.StoredCell.{StoredCell}
use Rattle.lt_model.specs.declared.input.BlockIn.{BlockIn}
use Rattle.lt_model.specs.declared.input.Input.{Input}
use Rattle.lt_model.specs.Memory.{Memory, Block}
use Rattle.lt_ir.specs.Running.{At, Over}

abbrev pub cell_type_with : (ℕ → ℕ) → CellType → CellType
cell_type_with r (Num s) = Num s
cell_type_with r (Pointer k) = Pointer (r k)

-- ---- memory

abbrev pub cell_with : (ℕ → ℕ) → StoredCell → StoredCell
cell_with r cell = record { offset = cell.offset; ty = cell_type_with r cell.ty; holds = cell.holds }

abbrev pub block_with : (ℕ → ℕ) → Block → Block
block_with r block = record block { cells = map (cell_with r) block.cells }

abbrev pub memory_with : (ℕ → ℕ) → Memory → Memory
memory_with r memory = map (block_with r) memory

abbrev pub at_with : (ℕ → ℕ) → At → At
at_with r at = record at { memory = memory_with r at.memory }

abbrev pub over_with : (ℕ → ℕ) → Over → Over
over_with r it = record { end = it.end; at = at_with r it.at }

-- ---- inputs

abbrev pub shape_cell_with : (ℕ → ℕ) → ShapeCell → ShapeCell
shape_cell_with r cell = record { offset = cell.offset; ty = cell_type_with r cell.ty }

abbrev pub shape_with : (ℕ → ℕ) → Shape → Shape
shape_with r shape = record { cells = map (shape_cell_with r) shape.cells; size = shape.size }

abbrev pub named_with : (ℕ → ℕ) → BlockIn → BlockIn
named_with r it = record { name = it.name; shape = shape_with r it.shape }

abbrev pub input_with : (ℕ → ℕ) → Input → Input
input_with r input = record input { blocks = map (named_with r) input.blocks }
