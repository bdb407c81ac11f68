use Rattle.std.proofs.Common.{List, take, map}
use Rattle.lt_tree.specs.Typing.Types.{CType}
use Rattle.lt_entry.specs.Naming.{block_root}
use Rattle.lt_input_names.specs.Blocks.{block_of}
use Rattle.lt_input_names.specs.Roots.{Puts}
use Rattle.lt_input_names.proofs.roots.put_blocks.Given as goal

abbrev pub invariant-loop-block : goal.invariant-loop-block
invariant-loop-block l = (types : List CType) → Puts types l.fn.roots l.roots (map (λ block. block_root (block_of types block)) (take l.block-index l.blocks))
