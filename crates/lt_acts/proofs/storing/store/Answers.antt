use Rattle.std.proofs.Common.{sym, ap, ◌∙◌}
use Rattle.lt_model.specs.Memory.{store}
use Rattle.lt_ir.specs.Evaluation.{is_content_of, grown, writes, cell_at}
use Rattle.lt_ir.specs.Graph.{with_content, with_both, footprint_at}
use Rattle.lt_acts.proofs.Stores.{store_goes}
use Rattle.lt_acts.proofs.Answering.{became, both_put}
use Rattle.lt_acts.proofs.storing.store.Goals as goal
use Rattle.lt_acts.proofs.storing.store.Goals.{then-tracks+in_ok-note_write, else-tracks}

pub returns-clause-acts : goal.returns-clause-acts
returns-clause-acts c = λ g code next same s.
    let b = became c.args.memory.now c.store.new.self (store c.args.memory.now.model c.args.memory.now.blocks c.in_ok-to.to c.args.ty c.in_ok-content.content) c.in_ok-store.ensures in
    store_goes g code c.args.place c.args.from c.args.gives c.args.ty c.args.tracks next c.args.registers.now c.put.new.self c.args.memory.now.blocks c.store.new.self.blocks c.in_ok-to.to c.in_ok-content.content c.in_ok-given.given s
    (λ at. c.in_ok-to.ensures c.args.memory.now.blocks at) (λ at. c.in_ok-content.ensures c.args.memory.now.blocks at) (λ at. c.in_ok-given.ensures c.args.memory.now.blocks at)
    (ap (λ model. is_content_of model c.args.ty c.in_ok-content.content) (same ∙ sym c.model.ensures) ∙ sym c.is_content_of.ensures.is ∙ c.if-not-is_content_of.false) (ap (λ model. store model c.args.memory.now.blocks c.in_ok-to.to c.args.ty c.in_ok-content.content) same ∙ b.blocks)
    (elim c.if-tracks.branch [
      | then-tracks+in_ok-note_write w ↦ c.put.ensures ∙ ap (λ rs. with_content rs c.args.place c.in_ok-given.given) (w.registers-is ∙ w.in_ok-note_write.ensures) ∙ both_put c.args.registers.now c.args.place _ c.in_ok-given.given ∙ ap (λ b. with_both c.args.registers.now c.args.place c.in_ok-given.given (grown b (footprint_at c.args.registers.now c.args.place) (writes (cell_at c.in_ok-to.to 0)))) (sym w.if-tracks.true)
      | else-tracks w ↦ c.put.ensures ∙ ap (λ rs. with_content rs c.args.place c.in_ok-given.given) w.registers-is ∙ ap (λ b. with_both c.args.registers.now c.args.place c.in_ok-given.given (grown b (footprint_at c.args.registers.now c.args.place) (writes (cell_at c.in_ok-to.to 0)))) (sym w.if-tracks.false)
    ])
