use Rattle.lt_input_names.specs.Blocks.{program_types}
use Rattle.lt_input_names.proofs.RootLaws.{roots_law}
use Rattle.lt_input_names.proofs.roots.roots_of.Goals as goal

pub returns : goal.returns
returns c =
    let types = program_types c.args.program.now in
    roots_law c.args.program.now c.args.entry c.args.blocks.now c.deref.result.now c.new-roots.result c.put_entry.new.roots c.put_blocks.new.roots c.put_objects.new.roots c.deref.ensures.value c.new-roots.ensures.empty c.in_ok-put_entry.ensures
    (c.in_ok-put_blocks.ensures types) (c.in_ok-put_objects.ensures types)
