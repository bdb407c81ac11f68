use Rattle.std.proofs.Common.{◌≡◌, List, map, drop}
use Rattle.lt_entry.specs.Lines.{Row}
use Rattle.lt_entry.specs.Specifications.{unfree_rows}
use Rattle.lt_entry.specs.LineViews.{row_view, line_view}
use Rattle.lt_input_names.specs.Views.{scope_of}
use Rattle.lt_spec_reader.specs.Frees.{AreFree}
use Rattle.lt_spec_reader.proofs.unfree.first_unfree.Given as goal

abbrev pub invariant-loop-i : goal.invariant-loop-i
invariant-loop-i l = (all : List Row) → AreFree (scope_of l.names) all l.free
    → unfree_rows (scope_of l.names) all (map row_view l.rows) (map line_view l.lines) ≡ unfree_rows (scope_of l.names) all (map row_view (drop l.i l.rows)) (map line_view (drop l.i l.lines))
