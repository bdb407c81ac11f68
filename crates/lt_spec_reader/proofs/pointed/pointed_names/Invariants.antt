use Rattle.std.proofs.Common.{◌≡◌, ℕ, List, map, take}
use Rattle.std.specs.List.{list_any}
use Rattle.lt_entry.specs.Conditions.{points_at}
use Rattle.lt_entry.specs.LineViews.{row_view}
use Rattle.lt_input_names.specs.Stubs.{has_name}
use Rattle.lt_spec_reader.proofs.pointed.pointed_names.Given as goal

abbrev pub invariant-loop-row : goal.invariant-loop-row
invariant-loop-row l = (name : List ℕ) → has_name l.names name ≡ list_any (λ row. points_at name row.words) (map row_view (take l.row-index l.rows))
