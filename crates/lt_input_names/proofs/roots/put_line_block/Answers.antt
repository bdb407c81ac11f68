use Rattle.std.proofs.Common.{Some, true, refl}
use Rattle.lt_entry.specs.Naming.{block_root}
use Rattle.lt_input_names.specs.Blocks.{line_block_of}
use Rattle.lt_input_names.proofs.RootLaws.{puts_named}
use Rattle.lt_input_names.proofs.roots.put_line_block.Goals as goal

pub returns : goal.returns
returns c = λ types.
    puts_named types c.args.roots.now c.put_first.new.map c.root_of_block.result (record { ty = record { element = c.args.block.element; count = Some c.args.block.count }; is_block = true }) (block_root (line_block_of types c.args.block))
    c.args.block.name.now refl c.root_of_block.ensures refl c.in_ok-put_first.ensures
