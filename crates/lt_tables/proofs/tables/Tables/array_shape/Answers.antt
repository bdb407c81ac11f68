use Rattle.std.proofs.Common.{◌≡◌, ◌∙◌, ap, rules, vec_len, length}
use Rattle.lt_tree.specs.Typing.TypeRows.{type_in}
use Rattle.lt_tree.specs.Typing.Extents.{size_of}
use Rattle.lt_tree.specs.Typing.Shapes.{repeated}
use Rattle.lt_tables.specs.Stretches.{cells_in}
use Rattle.lt_tables.specs.Views.{types_at, program_at}
use Rattle.lt_tables.proofs.ArraySizes.{array_size_of}
use Rattle.lt_tables.proofs.StructArrays.{array_made, deep}
use Rattle.lt_tables.proofs.tables.Tables.array_shape.Goals as goal

pub returns : goal.returns
returns c =
    let it = c.args.self.now in
    let program = program_at it in
    let t = type_in (types_at it) c.args.id in
    let counted : vec_len it.program.now.structs ≡ length it.program.now.structs.items = search rules in
    array_made program t c.args.count c.array_size.result c.new.result
    (c.new.ensures ∙ c.in_ok-cells.ensures ∙ ap (λ d. repeated c.args.count (size_of program.model program.structs t) (cells_in program d t) 0) (c.len-depth.ensures ∙ counted ∙ deep it))
    (array_size_of program.model program.structs t c.args.count c.size-size.result c.array_size.result c.array_size.ensures c.size-size.ensures)
