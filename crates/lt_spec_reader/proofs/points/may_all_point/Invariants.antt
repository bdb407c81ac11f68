use Rattle.std.proofs.Common.{◌≡◌, true, List, map, take}
use Rattle.std.specs.List.{list_all}
use Rattle.lt_entry.specs.SpecificationLines.{Line}
use Rattle.lt_entry.specs.Views.{target_view}
use Rattle.lt_input_names.specs.Views.{scope_of, named_at}
use Rattle.lt_spec_reader.specs.Said.{HasSaid, may_point}
use Rattle.lt_spec_reader.proofs.points.may_all_point.Given as goal

abbrev pub invariant-loop-part : goal.invariant-loop-part
invariant-loop-part l =
    (before : List Line) → HasSaid (scope_of l.names) before l.wants
    → list_all (may_point (scope_of l.names) before (map target_view l.line.targets.items)) (map (named_at l.names) (take l.part-index l.parts)) ≡ true
