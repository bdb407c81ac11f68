use Rattle.std.proofs.Common.{◌≡◌, ◌∙◌, ap, arith, length}
use Rattle.lt_tree.specs.Typing.Types.{Struct}
use Rattle.lt_tree.specs.Typing.Extents.{size_of}
use Rattle.lt_tree.specs.Typing.Shapes.{repeated}
use Rattle.lt_tables.specs.Stretches.{cells_in}
use Rattle.lt_tables.specs.Views.{program_at}
use Rattle.lt_tables.proofs.ArraySizes.{array_size_of}
use Rattle.lt_tables.proofs.StructArrays.{array_made, struct_more}
use Rattle.lt_tables.proofs.tables.Tables.struct_shape.Goals as goal

pub loop-place-preserved : goal.loop-place-preserved
loop-place-preserved c =
    struct_more c.args.self.now c.args.number c.loop-place.place c.struct_size-size.result c.in_ok-times.field-0 c.members-members.result.now c.loop-place.cells.items c.put_struct.new.cells.items c.members-members.ensures
    c.struct_size-size.ensures c.in_ok-times.ensures c.loop-place.invariant c.in_ok-put_struct.ensures

pub returns : goal.returns
returns c =
    let it = c.args.self.now in
    let program = program_at it in
    let done : c.loop-place.place ≡ c.args.count = omega (arith, c.loop-place-test.false, c.loop-place.auto.place-end) in
    let size_is = c.struct_size-size.ensures ∙ it.layouts_hold.struct_sizes c.args.number in
    array_made program (Struct c.args.number) c.args.count c.array_size.result c.new.result
    (c.new.ensures ∙ c.loop-place.invariant ∙ ap (λ n. repeated n (size_of program.model program.structs (Struct c.args.number)) (cells_in program (length program.structs) (Struct c.args.number)) 0) done)
    (array_size_of program.model program.structs (Struct c.args.number) c.args.count c.struct_size-size.result c.array_size.result c.array_size.ensures size_is)
