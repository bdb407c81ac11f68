use Rattle.std.proofs.Common.{arith, ◌≡◌, sym, ◌∙◌, ap, Some, length}
use Rattle.lt_model.specs.Memory.{cells_alive, new_cell}
use Rattle.std.proofs.lemmas.List.{length-map}
use Rattle.lt_mem.specs.Image.{Image, Body}
use Rattle.lt_mem.proofs.Blocks.{change_from, length-blocks_of}
use Rattle.lt_mem.proofs.Keeping.{kept_after_add, made_is}
use Rattle.lt_mem.proofs.memory.Memory.add.Goals as goal

pub invariant_of-self-2 : goal.invariant_of-self-2
invariant_of-self-2 c =
    let change = change_from c.self.inside.living c.insert.new.self c.self.inside.made (Some c.in_ok-object.object) c.in_ok-insert.ensures.updates in
    let cells : length c.as_slice-cells.result.now ≡ length c.in_ok-object.object.cells = ap length c.as_slice-cells.ensures ∙ sym (ap (λ (b : Body). length b.cells) c.in_ok-object.ensures ∙ length-map c.args.shape.now.cells (new_cell c.args.zero)) in
    let count = c.self.invariant.counted ∙ ap (λ (i : Image). cells_alive i.blocks) c.self.view_is in
    kept_after_add c.self.inside.living c.self.inside.made c.self.inside.alive c.self.inside.scratch.items c.self.invariant c.insert.new.self c.in_ok-object.object c.lengthen.new.scratch.items change _ _
    c.in-Some.ensures.1 cells (omega (arith, count, c.requires, ap length c.as_slice-cells.ensures)) c.lengthen.ensures.fit c.lengthen.ensures.grows c.in_ok-lengthen.ensures.enough

pub returns-clause-number : goal.returns-clause-number
returns-clause-number c = sym (ap (λ (i : Image). length i.blocks) (sym c.self.view_is) ∙ length-blocks_of c.self.inside.living c.self.inside.made)

pub returns-clause-made : goal.returns-clause-made
returns-clause-made c =
    let change = change_from c.self.inside.living c.insert.new.self c.self.inside.made (Some c.in_ok-object.object) c.in_ok-insert.ensures.updates in
    rw (← c.self.view_is) (ap (λ blocks. record { model = c.self.inside.model; blocks = blocks }) (made_is c.self.inside.living c.insert.new.self c.self.inside.made c.in-Some.made c.in_ok-object.object c.args.shape.now c.args.zero c.args.writable change c.in-Some.ensures.1 c.in_ok-object.ensures))
