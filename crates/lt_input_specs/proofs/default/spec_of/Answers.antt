use Rattle.std.proofs.Common.{◌≡◌, ◌++◌, [], map, ap, ◌∙◌}
use Rattle.std.specs.Prelude.{option_map}
use Rattle.std.specs.List.{filter_map, flat_map}
use Rattle.lt_tree.specs.Typing.ProgramView.{program_of}
use Rattle.lt_entry.specs.Naming.{default_block}
use Rattle.lt_entry.specs.Meaning.{block_in}
use Rattle.lt_input_names.specs.Blocks.{program_types, block_of}
use Rattle.lt_input_specs.specs.Defaults.{root_of, parameter_cells}
use Rattle.lt_input_specs.proofs.DefaultLaws.{block_cells, default_whole}
use Rattle.lt_input_specs.proofs.default.spec_of.Goals as goal

pub returns : goal.returns
returns c =
    let program = c.args.kinds.now.program.now in
    let p = program_of program in
    let whole =
    default_whole program c.args.number c.in_ok-parameters.parameters.items (map (block_of (program_types program)) c.in_ok-blocks.blocks.items) c.in_ok-shapes.shapes.items c.in_ok-cells.cells.items c.put_block_cells.new.cells.items
    c.in_ok-ranges_of.field-0.items c.in_ok-parameters.ensures
    (c.in_ok-blocks.ensures ∙ ap (filter_map (λ object. default_block p (root_of program object.now))) c.deref.ensures.value)
    (c.in_ok-shapes.ensures ∙ ap (filter_map (λ object. option_map (block_in p) (default_block p (root_of program object.now)))) c.deref-2.ensures.value)
    (c.in_ok-cells.ensures ∙ ap (flat_map (λ object. parameter_cells p (root_of program object.now))) c.deref-3.ensures.value)
    (c.in_ok-put_block_cells.ensures ∙ ap (λ l. c.in_ok-cells.cells.items ++ flat_map (block_cells p) l) c.deref-4.ensures.value)
    c.in_ok-ranges_of.ensures in
    let needs : c.new-6.result ≡ [] = c.new-6.ensures ∙ c.new-5.ensures.items in
    rw (c.in_ok-entry.ensures, c.new-2.ensures, c.new-3.ensures, c.new-4.ensures, needs) whole
