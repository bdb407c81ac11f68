use Rattle.std.proofs.Common.{◌<◌, ◌^◌, sym, ap, ◌∙◌, arith}
use Rattle.lt_tree.specs.Typing.Types.{Array}
use Rattle.lt_tree.specs.Typing.ProgramView.{program_of}
use Rattle.lt_meaning.specs.Expressions.{shape}
use Rattle.lt_input_names.specs.Blocks.{base_of, program_types}
use Rattle.lt_input_blocks.proofs.ShapeLaws.{ok_map, num_law, void_law, floating_law}
use Rattle.lt_input_blocks.proofs.block_types.BlockTypes.base_shape.Goals as goal

pub returns-in-Num : goal.returns-in-Num
returns-in-Num c =
    let program = program_of c.args.self.now.program.now in
    let types = program_types c.args.self.now.program.now in
    let less : c.args.count < 2 ^ 32 = omega (arith, c.ranges.count.fits) in
    ok_map _ _ c.plain_shape.result
    (λ it h.
    h ∙ num_law program c.args.count c.scalar_extent-size.result.size less c.in-Num.scalar (ap (λ e. e.size) c.scalar_extent-size.ensures)
    ∙ ap (λ t. shape program (Array t c.args.count)) (sym (ap (base_of types) c.in-Num.is)))
    c.plain_shape.ensures

pub returns-in-Void : goal.returns-in-Void
returns-in-Void c =
    let program = program_of c.args.self.now.program.now in
    let types = program_types c.args.self.now.program.now in
    c.no_shape.ensures ∙ void_law program c.args.count ∙ ap (λ t. shape program (Array t c.args.count)) (sym (ap (base_of types) c.in-Void.is))

pub returns-in-Floating : goal.returns-in-Floating
returns-in-Floating c =
    let program = program_of c.args.self.now.program.now in
    let types = program_types c.args.self.now.program.now in
    c.no_shape-in-Floating.ensures ∙ floating_law program c.args.count ∙ ap (λ t. shape program (Array t c.args.count)) (sym (ap (base_of types) c.in-Floating.is))
