use Rattle.std.proofs.Common.{◌≡◌, drop}
use Rattle.std.specs.List.{All}
use Rattle.lt_mem.specs.Cells.{IsFit}
use Rattle.lt_mem.specs.Steps.{waiting}
use Rattle.lt_mem.proofs.copying.gather.Given as goal

abbrev pub invariant-loop-cell : goal.invariant-loop-cell
invariant-loop-cell l =
    (waiting l.source.cells l.from l.target.cells l.to l.waits (drop l.cell-index l.shape) ≡ waiting l.source.cells l.from l.target.cells l.to l.initial.waits l.shape) × All IsFit l.waits
