use Rattle.std.proofs.Common.{◌≡◌, ◌+◌, ◌-◌}
use Rattle.lt_ir.specs.Running.{At}
use Rattle.lt_ir.specs.Graph.{contents_from}
use Rattle.lt_mach.proofs.Gathering.{behind}
use Rattle.lt_mach.proofs.calling.gather.Given as goal

abbrev pub invariant-loop-k : goal.invariant-loop-k
invariant-loop-k l = (at : At) → contents_from l.registers l.first l.count at ≡ behind l.contents.items (contents_from l.registers (l.first + l.k) (l.count - l.k)) at
