use Rattle.std.proofs.Common.{sym, ap, ◌∙◌}
use Rattle.lt_model.specs.Memory.{load}
use Rattle.lt_ir.specs.Evaluation.{grown, reads, cell_at}
use Rattle.lt_ir.specs.Graph.{with_content, with_footprint, footprint_at}
use Rattle.lt_acts.proofs.Loads.{load_goes}
use Rattle.lt_acts.proofs.Answering.{same_put}
use Rattle.lt_acts.proofs.loading.load.Goals as goal
use Rattle.lt_acts.proofs.loading.load.Goals.{then-tracks+in_ok-note_read, else-tracks}

pub returns : goal.returns
returns c = λ g code next same s.
    load_goes g code c.args.to c.args.from c.args.ty c.args.tracks next c.args.registers.now c.put.new.self c.args.memory.now.blocks c.in_ok-at.at c.in_ok-held.held s
    (λ at. c.in_ok-at.ensures c.args.memory.now.blocks at) (ap (λ model. load model c.args.memory.now.blocks c.in_ok-at.at c.args.ty) same ∙ sym c.load.ensures ∙ c.in_ok-held.was)
    (elim c.if-tracks.branch [
      | then-tracks+in_ok-note_read w ↦ c.put.ensures ∙ ap (λ rs. with_content rs c.args.to c.in_ok-held.held) (w.registers-is ∙ w.in_ok-note_read.ensures ∙ ap (λ b. with_footprint c.args.registers.now c.args.from (grown b (footprint_at c.args.registers.now c.args.from) (reads (cell_at c.in_ok-at.at 0)))) (sym w.if-tracks.true))
      | else-tracks w ↦ c.put.ensures ∙ ap (λ rs. with_content rs c.args.to c.in_ok-held.held) (w.registers-is ∙ sym (same_put c.args.registers.now c.args.from) ∙ ap (λ b. with_footprint c.args.registers.now c.args.from (grown b (footprint_at c.args.registers.now c.args.from) (reads (cell_at c.in_ok-at.at 0)))) (sym w.if-tracks.false))
    ])
