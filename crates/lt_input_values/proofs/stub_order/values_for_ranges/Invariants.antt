use Rattle.std.proofs.Common.{◌≡◌, take}
use Rattle.std.specs.List.{filter_map}
use Rattle.lt_input_values.specs.Maps.{values_for}
use Rattle.lt_input_values.proofs.stub_order.values_for_ranges.Given as goal

abbrev pub invariant-loop-range : goal.invariant-loop-range
invariant-loop-range l = l.sets.items ≡ filter_map (λ range. values_for l.first range.name) (take l.range-index l.ranges)
