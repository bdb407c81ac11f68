use Rattle.std.proofs.Common.{sym, ap, ◌∙◌}
use Rattle.lt_model.specs.declared.cell.Content.TheVariants as content
use Rattle.lt_model.specs.Memory.{copy_struct}
use Rattle.lt_model.specs.State.{joined}
use Rattle.lt_ir.specs.Evaluation.{grown, writes, cells_met}
use Rattle.lt_ir.specs.Graph.{with_content, with_both, with_footprint, footprint_at}
use Rattle.lt_acts.proofs.CopiedStructs.{copy_goes}
use Rattle.lt_acts.proofs.Answering.{became, both_put}
use Rattle.lt_acts.proofs.copying.copy_shape.Goals as goal
use Rattle.lt_acts.proofs.copying.copy_shape.Goals.{then-tracks+in_ok-note_written, else-tracks}

pub returns-clause-acts : goal.returns-clause-acts
returns-clause-acts c = λ g code k next same is_shape s.
    let b = became c.args.memory.now c.copy_struct.new.self (copy_struct c.args.memory.now.model c.args.memory.now.blocks c.in_ok-to.to c.in_ok-source.source c.args.shape.now) c.in_ok-copy_struct.ensures in
    copy_goes g code c.args.place c.args.from k c.args.shape.now c.args.tracks next c.args.registers.now c.put.new.self c.args.memory.now.blocks c.copy_struct.new.self.blocks c.in_ok-to.to c.in_ok-source.source s is_shape
    (λ at. c.in_ok-to.ensures c.args.memory.now.blocks at) (λ at. c.in_ok-source.ensures c.args.memory.now.blocks at)
    (ap (λ model. copy_struct model c.args.memory.now.blocks c.in_ok-to.to c.in_ok-source.source c.args.shape.now) same ∙ b.blocks)
    (elim c.if-tracks.branch [
      | then-tracks+in_ok-note_written w ↦ c.put.ensures ∙ ap (λ rs. with_content rs c.args.place (content.Address c.in_ok-to.to)) (w.registers-is ∙ w.in_ok-note_written.ensures ∙ ap (λ cells. with_footprint c.args.registers.now c.args.place (joined (footprint_at c.args.registers.now c.args.place) (writes (cells_met cells c.in_ok-to.to c.args.memory.now.blocks)))) w.as_slice.ensures)
          ∙ both_put c.args.registers.now c.args.place _ (content.Address c.in_ok-to.to) ∙ ap (λ b. with_both c.args.registers.now c.args.place (content.Address c.in_ok-to.to) (grown b (footprint_at c.args.registers.now c.args.place) (writes (cells_met c.args.shape.now.cells c.in_ok-to.to c.args.memory.now.blocks)))) (sym w.if-tracks.true)
      | else-tracks w ↦ c.put.ensures ∙ ap (λ rs. with_content rs c.args.place (content.Address c.in_ok-to.to)) w.registers-is ∙ ap (λ b. with_both c.args.registers.now c.args.place (content.Address c.in_ok-to.to) (grown b (footprint_at c.args.registers.now c.args.place) (writes (cells_met c.args.shape.now.cells c.in_ok-to.to c.args.memory.now.blocks)))) (sym w.if-tracks.false)
    ])
