use Rattle.std.proofs.Common.{◌≡◌, ◌∙◌, ◌++◌, map, refl, sym, ap, subst}
use Rattle.std.specs.List.{flat_map}
use Rattle.std.specs.Borrow.{Bor}
use Rattle.lt_tree.specs.declared.typed.entity.Object.{Object}
use Rattle.lt_tree.specs.Typing.ProgramView.{program_of}
use Rattle.lt_entry.specs.Conditions.{scope_behind}
use Rattle.lt_entry.specs.Naming.{Root, block_root}
use Rattle.lt_entry.specs.Meaning.{block_in, free_cells, null_or_default, only_null}
use Rattle.lt_entry.specs.LineViews.{line_view}
use Rattle.lt_input_names.specs.Blocks.{program_types, block_of, line_block_of}
use Rattle.lt_input_specs.specs.Defaults.{root_of}
use Rattle.lt_spec_reader.proofs.WholeLaws.{flat_mapped, blocks_are, shapes_are, whole}
use Rattle.lt_spec_reader.proofs.said.said.Goals as goal

pub returns : goal.returns
returns c = λ rows behind parameters default.
    let program = c.args.kinds.now.program.now in
    let number = c.args.number in
    let lines = map line_view c.args.lines.now in
    let state = c.args.state.now in
    let scope = scope_behind (program_of program) rows number lines in
    let root : Bor Object → _ = λ object. root_of program object.now in
    let all = c.in_ok-all.all.items in
    let made : map (block_of (program_types program)) all ≡ map (line_block_of (program_types program)) state.blocks.items ++ map (block_of (program_types program)) c.args.blocks.now =
    c.in_ok-all.ensures (program_types program) ∙ ap (λ l. map (line_block_of (program_types program)) l ++ map (block_of (program_types program)) c.args.blocks.now) c.as_slice.ensures.value in
    let blocks = blocks_are program rows number lines state behind all c.args.blocks.now default made in
    let shaped : c.in_ok-shapes.shapes.items ≡ map (λ block. block_in (program_of program) (block_of (program_types program) block)) all =
    subst (λ l. c.in_ok-shapes.shapes.items ≡ map (λ block. block_in (program_of program) (block_of (program_types program) block)) l) c.as_slice-2.ensures.value c.in_ok-shapes.ensures in
    let shapes = shapes_are program rows number lines state behind all c.in_ok-shapes.shapes.items blocks shaped in
    let free = λ (r : Root). free_cells scope lines (null_or_default (program_of program) r) r in
    let first = flat_map (λ (object : Bor Object). free (root object)) c.args.objects.now in
    let cells = c.in_ok-cells.ensures scope lines scope.blocks refl (sym parameters) (c.as_slice-3.ensures.value ∙ shapes) behind.wants in
    whole program rows number lines state behind c.in_ok-entry.entry all c.new.result (map root c.args.objects.now) first (first ++ flat_map (λ block. free_cells scope lines only_null (block_root block)) scope.blocks) c.new-2.result c.new-3.result c.new-4.result
    c.in_ok-entry.ensures parameters blocks (c.new.ensures ∙ shapes) (flat_mapped free root c.args.objects.now) refl (c.new-2.ensures ∙ cells) (c.new-3.ensures ∙ c.in_ok-stubs.ensures lines behind.ranges) (c.new-4.ensures ∙ c.in_ok-needs.ensures)
