use Rattle.std.proofs.Common.{Bor, ap, ◌∙◌}
use Rattle.lt_meaning.specs.Expressions.{shape}
use Rattle.lt_tree.specs.declared.typed.program.Program.{Program}
use Rattle.lt_tree.specs.Typing.ProgramView.{program_of}
use Rattle.lt_tree.specs.Typing.Types.{Array}
use Rattle.lt_entry.specs.Meaning.{block_in}
use Rattle.lt_input_names.specs.declared.block.Block.{Block}
use Rattle.lt_input_names.specs.Blocks.{program_types, block_of, element_of}
use Rattle.lt_spec_reader.proofs.BlockLaws.{made_more, same_block}
use Rattle.lt_spec_reader.proofs.said.blocks_in.Goals as goal

pub loop-block-preserved : goal.loop-block-preserved
loop-block-preserved c =
    let program = c.args.types.now.program.now in
    let block = c.block-item.result in
    let same = c.loop-block.invariant.program in
    record {
      types = c.in_ok-shape.ensures.types;
      program = c.in_ok-shape.ensures.program ∙ same;
      all =
          made_more (λ (block : Block). block_in (program_of program) (block_of (program_types program) block)) c.args.blocks.now c.loop-block.block-index block c.loop-block.all.items _ _ c.loop-block-test.true c.block-item.is c.loop-block.invariant.all c.in_ok-push.ensures.items
          (same_block c.in_ok-new.field-0 block.name c.in_ok-shape.field-0 (shape (program_of program) (Array (element_of (program_types program) block.element) block.count)) (c.in_ok-new.ensures ∙ c.as_slice.ensures)
          (c.in_ok-shape.ensures.shape ∙ ap (λ (p : Bor Program). shape (program_of p.now) (Array (element_of (program_types p.now) block.element) block.count)) same));
    }
