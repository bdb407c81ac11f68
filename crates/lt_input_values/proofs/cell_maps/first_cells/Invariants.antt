use Rattle.std.proofs.Common.{◌≡◌, take}
use Rattle.std.specs.List.{find}
use Rattle.lt_model.specs.declared.input.Place.{Place}
use Rattle.lt_entry.specs.Conditions.{same_place}
use Rattle.lt_input_values.specs.Maps.{free_at}
use Rattle.lt_input_values.proofs.cell_maps.first_cells.Given as goal

abbrev pub invariant-loop-cell : goal.invariant-loop-cell
invariant-loop-cell l = (place : Place) → free_at l.first place ≡ find (λ cell. same_place cell.at place) (take l.cell-index l.cells)
