use Rattle.std.proofs.Common.{◌≡◌, ◌++◌, take}
use Rattle.std.specs.Prelude.{not}
use Rattle.std.specs.List.{filter}
use Rattle.lt_entry.specs.Meeting.{place_set}
use Rattle.lt_input_values.specs.Maps.{has_place}
use Rattle.lt_input_values.proofs.cell_order.with_sets_elsewhere.Given as goal

abbrev pub invariant-loop-it : goal.invariant-loop-it
invariant-loop-it l = l.sets.items ≡ l.fn.sets.items ++ filter (λ it. not (has_place l.free (place_set it))) (take l.it-index l.all)
