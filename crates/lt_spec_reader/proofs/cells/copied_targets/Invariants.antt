use Rattle.std.proofs.Common.{◌≡◌, take}
use Rattle.lt_spec_reader.proofs.cells.copied_targets.Given as goal

abbrev pub invariant-loop-target : goal.invariant-loop-target
invariant-loop-target l = l.copy.items ≡ take l.target-index l.targets
