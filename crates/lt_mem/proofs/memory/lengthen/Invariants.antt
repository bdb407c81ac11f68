use Rattle.std.proofs.Common.{◌-◌, ◌≤◌, length}
use Rattle.std.specs.List.{All}
use Rattle.lt_mem.specs.Cells.{IsFit}
use Rattle.lt_mem.proofs.memory.lengthen.Given as goal

abbrev pub invariant-loop-scratch : goal.invariant-loop-scratch
invariant-loop-scratch l = (length l.initial.scratch.items ≤ length l.scratch.items) × All IsFit l.scratch.items

abbrev pub decreases-loop-scratch : goal.decreases-loop-scratch
decreases-loop-scratch l = l.cells - length l.scratch.items
