use Rattle.std.proofs.Common.{◌∙◌, sym, ap, drop, drop-cons, suc, add-one, ◌∷◌, []}
use Rattle.lt_model.specs.State.{joined}
use Rattle.lt_ir.specs.Graph.{with_footprint, footprint_at}
use Rattle.lt_acts.specs.Noting.{noted}
use Rattle.lt_acts.proofs.Noted.{to_come, one_came, none_came, all_came}
use Rattle.lt_acts.proofs.tracking.note_all.Goals as goal
use Rattle.lt_acts.proofs.tracking.note_all.Goals.{then-is_met+in_ok-note, else-is_met}

pub loop-cell-preserved : goal.loop-cell-preserved
loop-cell-preserved c =
    rw (add-one c.loop-cell.cell-index) (elim c.if-is_met.branch [
      | then-is_met+in_ok-note w ↦
          one_came c.args.side c.loop-cell.registers c.if-is_met.registers c.args.r c.args.at _ (drop (suc c.loop-cell.cell-index) c.args.cells.now) c.args.memory.now.blocks (sym c.is_met.ensures ∙ w.if-is_met.true)
          (w.registers-is ∙ w.in_ok-note.ensures ∙ ap (λ x. with_footprint c.loop-cell.registers c.args.r (joined (footprint_at c.loop-cell.registers c.args.r) (noted c.args.side (record { block = x.block; offset = x.offset } ∷ [])))) w.name.ensures)
          ∙ ap (λ cells. to_come c.args.side c.loop-cell.registers c.args.r c.args.at cells c.args.memory.now.blocks) (sym (drop-cons c.args.cells.now c.loop-cell.cell-index _ c.loop-cell-test.true)) ∙ c.loop-cell.invariant
      | else-is_met w ↦ ap (λ rs. to_come c.args.side rs c.args.r c.args.at (drop (suc c.loop-cell.cell-index) c.args.cells.now) c.args.memory.now.blocks) w.registers-is
          ∙ none_came c.args.side c.loop-cell.registers c.args.r c.args.at _ (drop (suc c.loop-cell.cell-index) c.args.cells.now) c.args.memory.now.blocks (sym c.is_met.ensures ∙ w.if-is_met.false)
          ∙ ap (λ cells. to_come c.args.side c.loop-cell.registers c.args.r c.args.at cells c.args.memory.now.blocks) (sym (drop-cons c.args.cells.now c.loop-cell.cell-index _ c.loop-cell-test.true)) ∙ c.loop-cell.invariant
    ])

pub returns : goal.returns
returns c = sym (all_came c.args.side c.loop-cell.registers c.args.r c.args.at c.args.cells.now c.loop-cell.cell-index c.args.memory.now.blocks c.loop-cell-test.false) ∙ c.loop-cell.invariant
