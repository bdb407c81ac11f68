use Rattle.std.proofs.Common.{◌≡◌, true, map, take}
use Rattle.std.specs.List.{list_all}
use Rattle.lt_entry.specs.Conditions.{is_term}
use Rattle.lt_entry.specs.LineViews.{addend_view}
use Rattle.lt_input_names.specs.Views.{scope_of}
use Rattle.lt_spec_reader.proofs.requirements.are_terms.Given as goal

abbrev pub invariant-loop-addend : goal.invariant-loop-addend
invariant-loop-addend l = list_all (is_term (scope_of l.names)) (map addend_view (take l.addend-index l.addends)) ≡ true
