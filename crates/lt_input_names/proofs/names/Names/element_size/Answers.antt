use Rattle.std.proofs.Common.{◌≡◌, sym, ap, ◌∙◌, arith}
use Rattle.lt_model.specs.declared.sizes.Extent.{Extent}
use Rattle.lt_model.specs.Layout.{scalar_extent}
use Rattle.lt_tree.specs.Typing.Extents.{size_of}
use Rattle.lt_input_names.specs.Blocks.{base_of, pointers}
use Rattle.lt_input_names.specs.Views.{program_at, types_at}
use Rattle.lt_input_names.proofs.PartLaws.{scalar_size}
use Rattle.lt_input_names.proofs.names.Names.element_size.Goals as goal

pub returns-in-Num : goal.returns-in-Num
returns-in-Num c =
    let names = c.args.self.now in
    let program = program_at names in
    let element = c.args.element in
    let none : 0 ≡ element.pointers = omega arith in
    ap (λ (e : Extent). e.size) (c.scalar_extent.ensures ∙ ap (λ m. scalar_extent m c.in-Num.scalar) c.model-in-Num.ensures) ∙ scalar_size program.model program.structs c.in-Num.scalar
    ∙ ap (λ b. size_of program.model program.structs (base_of (types_at names) b)) (sym c.in-Num.is) ∙ ap (λ n. size_of program.model program.structs (pointers n (base_of (types_at names) element.base))) none
