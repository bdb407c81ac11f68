use Rattle.std.proofs.Common.{◌≡◌, true, List, map, take}
use Rattle.std.specs.List.{list_all}
use Rattle.lt_entry.specs.SpecificationLines.{Line}
use Rattle.lt_entry.specs.Views.{numeral_view}
use Rattle.lt_input_names.specs.Views.{scope_of, named_at}
use Rattle.lt_spec_reader.specs.Said.{HasSaid, may_range}
use Rattle.lt_spec_reader.proofs.ranges.may_all_have.Given as goal

abbrev pub invariant-loop-part : goal.invariant-loop-part
invariant-loop-part l =
    (before : List Line) → HasSaid (scope_of l.names) before l.wants
    → list_all (may_range (scope_of l.names) before (numeral_view l.line.low) (numeral_view l.line.high)) (map (named_at l.names) (take l.part-index l.parts)) ≡ true
