use Rattle.std.proofs.Common.{◌≡◌, drop}
use Rattle.lt_ir.specs.Starting.{type_at}
use Rattle.lt_mach.proofs.roots.walk.Given as goal

abbrev pub invariant-loop-cell : goal.invariant-loop-cell
invariant-loop-cell l = type_at l.offset l.cells ≡ type_at l.offset (drop l.cell-index l.cells)
