use Rattle.std.proofs.Common.{◌≡◌, ◌++◌, map, take}
use Rattle.std.specs.List.{flat_map}
use Rattle.lt_entry.specs.Meaning.{need_terms}
use Rattle.lt_entry.specs.LineViews.{addend_view}
use Rattle.lt_input_names.specs.Views.{scope_of}
use Rattle.lt_spec_reader.proofs.needs.put_addends.Given as goal

abbrev pub invariant-loop-addend : goal.invariant-loop-addend
invariant-loop-addend l = l.terms.items ≡ l.initial.terms.items ++ flat_map (need_terms (scope_of l.names)) (map addend_view (take l.addend-index l.addends))
