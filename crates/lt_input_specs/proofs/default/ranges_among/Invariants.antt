use Rattle.std.proofs.Common.{◌≡◌, map, take}
use Rattle.lt_input_names.specs.Stubs.{stub_view}
use Rattle.lt_input_wants.specs.Stubs.{whole_range}
use Rattle.lt_input_specs.proofs.default.ranges_among.Given as goal

abbrev pub invariant-loop-stub : goal.invariant-loop-stub
invariant-loop-stub l = l.ranges.items ≡ map (λ stub. whole_range l.model (stub_view stub)) (take l.stub-index l.stubs)
