use Rattle.std.proofs.Common.{◌≡◌, map, take}
use Rattle.lt_input_names.specs.Stubs.{stub_view}
use Rattle.lt_spec_reader.specs.Said.{range_in}
use Rattle.lt_spec_reader.proofs.needs.ranges_among.Given as goal

abbrev pub invariant-loop-stub : goal.invariant-loop-stub
invariant-loop-stub l = l.all.items ≡ map (λ stub. range_in l.model l.ranges (stub_view stub)) (take l.stub-index l.stubs)
