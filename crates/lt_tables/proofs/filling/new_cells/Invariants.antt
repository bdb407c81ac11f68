use Rattle.std.proofs.Common.{◌≡◌, true, map, take}
use Rattle.lt_model.specs.Memory.{new_cell}
use Rattle.lt_tables.proofs.filling.new_cells.Given as goal

abbrev pub invariant-loop-cell : goal.invariant-loop-cell
invariant-loop-cell l = l.cells.items ≡ map (new_cell true) (take l.cell-index l.shape)
