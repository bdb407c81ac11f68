use Rattle.std.proofs.Common.{◌≡◌, take}
use Rattle.std.specs.List.{filter_map}
use Rattle.lt_input_values.specs.Maps.{set_at}
use Rattle.lt_input_values.proofs.cell_order.sets_in_cells.Given as goal

abbrev pub invariant-loop-cell : goal.invariant-loop-cell
invariant-loop-cell l = l.sets.items ≡ filter_map (λ cell. set_at l.last cell.at) (take l.cell-index l.cells)
