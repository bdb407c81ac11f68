use Rattle.std.proofs.Common.{◌-◌, ◌+◌, length}
use Rattle.lt_mach_parts.specs.Stacks.{AreSame}
use Rattle.lt_mach_parts.proofs.stacks.grow.Given as goal

abbrev pub invariant-loop-alloc : goal.invariant-loop-alloc
invariant-loop-alloc l = AreSame l.initial.list.items l.list.items

abbrev pub decreases-loop-alloc : goal.decreases-loop-alloc
decreases-loop-alloc l = l.k + 1 - length l.list.items
