use Rattle.std.proofs.Common.{◌≡◌, ℕ, ◌∙◌, true, Ok, Err, ap, sym, rules}
use Rattle.lt_model.specs.State.{Gives}
use Rattle.lt_ir.specs.declared.variable.Variable.TheVariants.{Static as StaticObject}
use Rattle.lt_ir.specs.Running.{Step, created, bound_to, ◌>>=◌}
use Rattle.lt_ir.specs.Starting.{fill}
use Rattle.lt_acts.specs.Placing.{standing}
use Rattle.lt_mach.proofs.Passing.{first_gives, came}
use Rattle.lt_mach.proofs.Filling.{fill_so, made, first_over}
use Rattle.lt_mach.proofs.statics.start_static.Goals as goal

pub returns-in_err-fill-clause-starts : goal.returns-in_err-fill-clause-starts
returns-in_err-fill-clause-starts c = λ at.
    let shape = c.args.it.now.block.shape in
    let here = standing c.args.statics.now c.args.memory.now.blocks at in
    let later = standing c.args.statics.now c.create.new.self.blocks at in
    let go : ℕ → Step (Unit {0}) = λ b. fill c.args.memory.now.model b shape.cells c.args.it.now.cells >>= (λ _. bound_to (StaticObject c.args.number) b) in
    let e : c.from_residual-in_err-fill.result ≡ Err c.in_err-fill.field-0.0 = search rules in
    let h = fill_so _ _ c.in_ok-block.block _ _ _ _ c.create.new.self.blocks c.fill.new.memory.blocks (Err c.in_err-fill.field-0.0) c.create.ensures.model c.as_slice.ensures c.as_slice-2.ensures c.in_err-fill.ensures.fills in
    rw e
    (came (Err c.in_err-fill.field-0.0) (standing c.args.statics.now c.fill.new.memory.blocks at) _ _
    (first_gives (created shape true) go here later c.in_ok-block.block (made shape c.args.statics.now c.args.memory.now.blocks c.create.new.self.blocks c.in_ok-block.block at c.in_ok-block.ensures.number c.in_ok-block.ensures.made))
    (first_over (fill c.args.memory.now.model c.in_ok-block.block shape.cells c.args.it.now.cells) (bound_to (StaticObject c.args.number) c.in_ok-block.block) later (standing c.args.statics.now c.fill.new.memory.blocks at) c.in_err-fill.field-0.0 (h later)))

pub returns-clause-starts : goal.returns-clause-starts
returns-clause-starts c = λ at.
    let shape = c.args.it.now.block.shape in
    let here = standing c.args.statics.now c.args.memory.now.blocks at in
    let later = standing c.args.statics.now c.create.new.self.blocks at in
    let go : ℕ → Step (Unit {0}) = λ b. fill c.args.memory.now.model b shape.cells c.args.it.now.cells >>= (λ _. bound_to (StaticObject c.args.number) b) in
    let h = fill_so _ _ c.in_ok-block.block _ _ _ _ c.create.new.self.blocks c.fill.new.memory.blocks (Ok tt) c.create.ensures.model c.as_slice.ensures c.as_slice-2.ensures c.in_ok-fill.ensures.fills in
    first_gives (created shape true) go here later c.in_ok-block.block (made shape c.args.statics.now c.args.memory.now.blocks c.create.new.self.blocks c.in_ok-block.block at c.in_ok-block.ensures.number c.in_ok-block.ensures.made)
    ∙ first_gives (fill c.args.memory.now.model c.in_ok-block.block shape.cells c.args.it.now.cells) (λ _. bound_to (StaticObject c.args.number) c.in_ok-block.block) later (standing c.args.statics.now c.fill.new.memory.blocks at) tt (h later)
    ∙ ap (λ l. Gives tt (standing l c.fill.new.memory.blocks at)) (sym c.in_ok-bind.ensures.done)
