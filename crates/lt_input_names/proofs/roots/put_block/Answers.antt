use Rattle.std.proofs.Common.{Some, true, refl}
use Rattle.lt_entry.specs.Naming.{block_root}
use Rattle.lt_input_names.specs.Blocks.{block_of}
use Rattle.lt_input_names.proofs.RootLaws.{puts_named}
use Rattle.lt_input_names.proofs.roots.put_block.Goals as goal

pub returns : goal.returns
returns c = λ types.
    puts_named types c.args.roots.now c.put_first.new.map c.root_of_block-root.result (record { ty = record { element = c.args.block.now.element; count = Some c.args.block.now.count }; is_block = true }) (block_root (block_of types c.args.block.now))
    c.as_slice.result.now c.as_slice.ensures c.root_of_block-root.ensures refl c.in_ok-put_first.ensures
