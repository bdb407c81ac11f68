use Rattle.std.proofs.Common.{◌≡◌, take}
use Rattle.std.specs.Prelude.{◌&&◌, is_some}
use Rattle.std.specs.List.{list_any}
use Rattle.lt_model.specs.declared.input.Place.{Place}
use Rattle.lt_entry.specs.Conditions.{same_place}
use Rattle.lt_input_values.specs.Maps.{set_at, has_place}
use Rattle.lt_input_values.proofs.cell_order.free_places.Given as goal

abbrev pub invariant-loop-cell : goal.invariant-loop-cell
invariant-loop-cell l = (place : Place) → has_place l.free place ≡ list_any (λ cell. same_place cell.at place && is_some (set_at l.last cell.at)) (take l.cell-index l.cells)
