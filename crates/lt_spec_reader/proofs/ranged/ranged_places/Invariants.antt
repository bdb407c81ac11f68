use Rattle.std.proofs.Common.{◌≡◌, map, take}
use Rattle.std.specs.List.{list_any}
use Rattle.lt_model.specs.declared.input.Place.{Place}
use Rattle.lt_entry.specs.Conditions.{is_ranged_by}
use Rattle.lt_entry.specs.LineViews.{row_view}
use Rattle.lt_input_names.specs.Views.{scope_of}
use Rattle.lt_spec_reader.specs.Frees.{has_place}
use Rattle.lt_spec_reader.proofs.ranged.ranged_places.Given as goal

abbrev pub invariant-loop-row : goal.invariant-loop-row
invariant-loop-row l = (place : Place) → has_place l.ranged place ≡ list_any (λ row. is_ranged_by (scope_of l.names) place row.words) (map row_view (take l.row-index l.rows))
