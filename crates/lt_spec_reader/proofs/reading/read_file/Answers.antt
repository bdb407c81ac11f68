use Rattle.std.proofs.Common.{◌≡◌, Bor, map, filter, ap, ◌∙◌}
use Rattle.std.specs.Prelude.{not}
use Rattle.std.specs.List.{list_any, filter_map}
use Rattle.lt_tree.specs.declared.typed.entity.Object.{Object}
use Rattle.lt_tree.specs.Typing.ProgramView.{program_of}
use Rattle.lt_entry.specs.Lines.{Row}
use Rattle.lt_entry.specs.Naming.{default_block}
use Rattle.lt_entry.specs.Conditions.{points_at}
use Rattle.lt_entry.specs.LineViews.{row_view}
use Rattle.lt_input_names.specs.Blocks.{program_types, block_of}
use Rattle.lt_input_specs.specs.Defaults.{root_of}
use Rattle.lt_spec_reader.proofs.OwnLaws.{default_are}
use Rattle.lt_spec_reader.proofs.reading.read_file.Goals as goal

pub returns : goal.returns
returns c = λ first named.
    let program = c.args.kinds.now.program.now in
    let rows = map row_view c.args.rows.now in
    let entry = c.args.entry.number in
    let these = c.in_ok-pointing.ensures ∙ ap (filter (λ (object : Bor Object). not (list_any (λ (row : Row). points_at object.now.name row.words) rows))) c.as_slice.ensures.value in
    let made = c.in_ok-blocks.ensures ∙ ap (filter_map (λ (object : Bor Object). default_block (program_of program) (root_of program object.now))) c.as_slice-2.ensures.value in
    c.read_lent.ensures first named
    (ap (map (λ (object : Bor Object). root_of program object.now)) c.as_slice-3.ensures.value ∙ c.in_ok-objects.ensures)
    (ap (map (block_of (program_types program))) c.as_slice-4.ensures.value
    ∙ default_are (program_of program) rows entry (λ (object : Bor Object). root_of program object.now) c.in_ok-objects.objects.items c.in_ok-pointing.pointing.items (map (block_of (program_types program)) c.in_ok-blocks.blocks.items) c.in_ok-objects.ensures these made)
