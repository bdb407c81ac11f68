use Rattle.std.proofs.Common.{◌≡◌, take, List, ℕ}
use Rattle.std.specs.List.{list_any}
use Rattle.std.specs.Str.{bytes_eq}
use Rattle.lt_input_values.specs.Maps.{has_name}
use Rattle.lt_input_values.proofs.stub_order.names_of.Given as goal

abbrev pub invariant-loop-range : goal.invariant-loop-range
invariant-loop-range l = (name : List ℕ) → has_name l.names name ≡ list_any (λ range. bytes_eq range.name name) (take l.range-index l.ranges)
