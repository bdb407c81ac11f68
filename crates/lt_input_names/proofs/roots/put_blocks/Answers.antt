use Rattle.lt_entry.specs.Naming.{block_root}
use Rattle.lt_input_names.specs.Blocks.{block_of}
use Rattle.lt_input_names.proofs.RootLaws.{puts_none, puts_mapped}
use Rattle.lt_input_names.proofs.roots.put_blocks.Goals as goal

pub loop-block-init : goal.loop-block-init
loop-block-init c = λ types. puts_none types c.args.roots.now

pub loop-block-preserved : goal.loop-block-preserved
loop-block-preserved c = λ types.
    puts_mapped types (λ block. block_root (block_of types block)) c.args.blocks.now c.loop-block.block-index c.block-item.result c.args.roots.now c.loop-block.roots c.put_block.new.roots c.loop-block-test.true c.block-item.is (c.loop-block.invariant types) (c.in_ok-put_block.ensures types)
