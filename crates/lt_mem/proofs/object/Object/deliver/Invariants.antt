use Rattle.std.proofs.Common.{◌≡◌, length, drop}
use Rattle.lt_mem.specs.Steps.{delivered}
use Rattle.lt_mem.proofs.object.Object.deliver.Given as goal

abbrev pub invariant-loop-cell : goal.invariant-loop-cell
invariant-loop-cell l =
    (delivered l.model l.self.cells l.to l.waits (drop l.cell-index l.shape) ≡ delivered l.model l.initial.self.cells l.to l.waits l.shape)
    × (l.self ≡ record l.initial.self { cells = l.self.cells }) × (length l.self.cells ≡ length l.initial.self.cells)
