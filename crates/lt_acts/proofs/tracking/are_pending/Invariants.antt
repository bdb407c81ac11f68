use Rattle.std.proofs.Common.{◌≡◌, drop, Some}
use Rattle.lt_model.specs.State.{meets}
use Rattle.lt_ir.specs.Evaluation.{cells_met}
use Rattle.lt_ir.specs.Graph.{footprint_at}
use Rattle.lt_acts.proofs.tracking.are_pending.Given as goal

abbrev pub invariant-loop-cell : goal.invariant-loop-cell
invariant-loop-cell l =
    meets (cells_met (drop l.cell-index l.cells) (Some l.at) l.memory.blocks) (footprint_at l.registers l.r).pending ≡ meets (cells_met l.cells (Some l.at) l.memory.blocks) (footprint_at l.registers l.r).pending
