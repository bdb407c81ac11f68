use Rattle.std.proofs.Common.{◌≡◌, List, map, take}
use Rattle.lt_tree.specs.Typing.Types.{CType}
use Rattle.lt_input_names.specs.Blocks.{block_of, line_block_of}
use Rattle.lt_spec_reader.proofs.blocks.line_blocks_of.Given as goal

abbrev pub invariant-loop-block : goal.invariant-loop-block
invariant-loop-block l = (types : List CType) → map (block_of types) l.blocks.items ≡ map (line_block_of types) (take l.block-index l.added)
