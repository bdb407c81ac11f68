use Rattle.std.proofs.Common.{◌≡◌, ◌<◌, ◌^◌, Bor, ap, ◌∙◌, subst, arith}
use Rattle.lt_tree.specs.declared.typed.program.Program.{Program}
use Rattle.lt_tree.specs.Typing.ProgramView.{program_of}
use Rattle.lt_tables.specs.Interned.{number_among}
use Rattle.lt_input_names.specs.Blocks.{base_of, element_of, program_types}
use Rattle.lt_input_blocks.proofs.ShapeLaws.{ok_map, pointers_law}
use Rattle.lt_input_blocks.proofs.block_types.BlockTypes.shape.Goals as goal

pub returns-clause-shape : goal.returns-clause-shape
returns-clause-shape c =
    let program = program_of c.args.self.now.program.now in
    let types = program_types c.args.self.now.program.now in
    let element = c.args.element in
    let less : c.args.count < 2 ^ 32 = omega (arith, c.ranges.count.fits) in
    let named : c.in_ok-number.number ≡ number_among program.types (element_of types element) =
    subst (λ (p : Bor Program). c.in_ok-number.number ≡ number_among (program_of p.now).types (element_of (program_types p.now) element)) c.requires.bare_program c.in_ok-number.ensures.number in
    ok_map _ _ c.plain_shape.result
    (λ it h.
    h ∙ pointers_law program c.args.count c.pointer_extent-size.result.size less element.pointers (base_of types element.base) c.in_ok-number.number c.if-element-eq0.false
    (ap (λ e. e.size) c.pointer_extent-size.ensures) named)
    c.plain_shape.ensures
