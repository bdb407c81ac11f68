use Rattle.std.proofs.Common.{◌≡◌, ◌++◌, take}
use Rattle.std.specs.Prelude.{not}
use Rattle.std.specs.List.{filter}
use Rattle.lt_input_values.specs.Maps.{has_name}
use Rattle.lt_input_values.proofs.stub_order.with_other_values.Given as goal

abbrev pub invariant-loop-it : goal.invariant-loop-it
invariant-loop-it l = l.sets.items ≡ l.fn.sets.items ++ filter (λ it. not (has_name l.names it.name)) (take l.it-index l.all)
