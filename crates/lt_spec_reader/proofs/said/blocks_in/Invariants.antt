use Rattle.std.proofs.Common.{◌≡◌, map, take}
use Rattle.lt_tree.specs.Typing.ProgramView.{program_of}
use Rattle.lt_entry.specs.Meaning.{block_in}
use Rattle.lt_input_names.specs.Blocks.{program_types, block_of}
use Rattle.lt_input_blocks.specs.Elements.{AreBlockTypes}
use Rattle.lt_spec_reader.proofs.said.blocks_in.Given as goal

abbrev pub invariant-loop-block : goal.invariant-loop-block
invariant-loop-block l = record {
  types : AreBlockTypes l.types;
  program : l.types.program ≡ l.initial.types.program;
  all : l.all.items ≡ map (λ block. block_in (program_of l.initial.types.program.now) (block_of (program_types l.initial.types.program.now) block)) (take l.block-index l.blocks);
}
