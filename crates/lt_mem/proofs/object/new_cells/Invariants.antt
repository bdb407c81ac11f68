use Rattle.std.proofs.Common.{◌≡◌, map, take}
use Rattle.lt_model.specs.Memory.{new_cell}
use Rattle.lt_mem.proofs.object.new_cells.Given as goal

abbrev pub invariant-loop-cell : goal.invariant-loop-cell
invariant-loop-cell l = l.cells.items ≡ map (new_cell l.zero) (take l.cell-index l.shape)
