use Rattle.std.proofs.Common.{◌≡◌, map, drop}
use Rattle.lt_ir.specs.Running.{At}
use Rattle.lt_ir.specs.Pure.{looked_at}
use Rattle.lt_ir.specs.PureView.{pure_of}
use Rattle.lt_acts.specs.Placing.{standing}
use Rattle.lt_acts.proofs.Quiet.{bound_so_far}
use Rattle.lt_acts.proofs.marking.bindings.Given as goal

abbrev pub invariant-loop-i : goal.invariant-loop-i
invariant-loop-i l =
    (at : At) → looked_at l.memory.model l.names (map pure_of l.values) (standing l.scope l.memory.blocks at) ≡ bound_so_far l.memory.model l.scope l.memory.blocks l.bound.items (drop l.i l.names) (drop l.i l.values) at
