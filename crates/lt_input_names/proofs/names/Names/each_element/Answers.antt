use Rattle.std.proofs.Common.{◌+◌, map, sym, ap, ◌∙◌}
use Rattle.lt_input_names.specs.Blocks.{element_of}
use Rattle.lt_input_names.specs.Parts.{part_at, run}
use Rattle.lt_input_names.specs.Views.{program_at, types_at, type_at}
use Rattle.lt_input_names.proofs.StepLaws.{no_elements, each_element}
use Rattle.lt_input_names.proofs.names.Names.each_element.Goals as goal

pub returns-in-None : goal.returns-in-None
returns-in-None c = λ offset. no_elements (program_at c.args.self.now) offset (type_at c.args.self.now c.args.ty) c.in-None.ensures

pub returns-in-Some : goal.returns-in-Some
returns-in-Some c = λ offset.
    let names = c.args.self.now in
    each_element (program_at names) offset (type_at names c.args.ty) (element_of (types_at names) c.in-Some.array.element) c.in-Some.array.count c.element_size.result c.in-Some.ensures c.element_size.ensures
    ∙ ap (λ t. map (part_at (type_at names t)) (run (offset + 0) c.element_size.result c.in-Some.array.count)) (sym c.element_part.ensures)
