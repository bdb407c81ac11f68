use Rattle.std.proofs.Common.{◌≡◌, take, List, ℕ}
use Rattle.std.specs.List.{find}
use Rattle.std.specs.Str.{bytes_eq}
use Rattle.lt_input_values.specs.Maps.{values_for}
use Rattle.lt_input_values.proofs.stub_order.first_values.Given as goal

abbrev pub invariant-loop-it : goal.invariant-loop-it
invariant-loop-it l = (name : List ℕ) → values_for l.first name ≡ find (λ it. bytes_eq it.name name) (take l.it-index l.sets)
