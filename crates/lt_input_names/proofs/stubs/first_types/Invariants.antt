use Rattle.std.proofs.Common.{◌≡◌, map, take, List, ℕ}
use Rattle.lt_entry.specs.Conditions.{stub_among}
use Rattle.lt_input_names.specs.Found.{found_in}
use Rattle.lt_input_names.specs.Stubs.{stub_view}
use Rattle.lt_input_names.proofs.stubs.first_types.Given as goal

abbrev pub invariant-loop-stub : goal.invariant-loop-stub
invariant-loop-stub l = (name : List ℕ) → found_in l.types name ≡ stub_among name (map stub_view (take l.stub-index l.stubs))
