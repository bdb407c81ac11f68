use Rattle.std.proofs.Common.{◌≡◌, true, List, map, take}
use Rattle.std.specs.List.{list_all}
use Rattle.lt_entry.specs.Lines.{Row}
use Rattle.lt_entry.specs.Naming.{named_by}
use Rattle.lt_entry.specs.Conditions.{is_free}
use Rattle.lt_entry.specs.LineViews.{addend_view}
use Rattle.lt_input_names.specs.Views.{scope_of}
use Rattle.lt_spec_reader.specs.Frees.{AreFree}
use Rattle.lt_spec_reader.proofs.unfree.are_addends_free.Given as goal

abbrev pub invariant-loop-addend : goal.invariant-loop-addend
invariant-loop-addend l = (rows : List Row) → AreFree (scope_of l.names) rows l.free
    → list_all (λ addend. list_all (is_free (scope_of l.names) rows) (named_by (scope_of l.names) addend.term.place)) (map addend_view (take l.addend-index l.addends)) ≡ true
