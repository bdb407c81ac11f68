use Rattle.std.proofs.Common.{◌≡◌, map, take}
use Rattle.std.specs.List.{filter_map}
use Rattle.lt_entry.specs.Meaning.{need_said}
use Rattle.lt_entry.specs.LineViews.{line_view}
use Rattle.lt_input_names.specs.Views.{scope_of}
use Rattle.lt_spec_reader.proofs.needs.needs_of.Given as goal

abbrev pub invariant-loop-line : goal.invariant-loop-line
invariant-loop-line l = l.needs.items ≡ filter_map (need_said (scope_of l.names)) (map line_view (take l.line-index l.lines))
