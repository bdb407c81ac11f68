use Rattle.std.proofs.Common.{◌≡◌, map, ap, subst}
use Rattle.std.specs.Prelude.{IfOk}
use Rattle.lt_tree.specs.Typing.ProgramView.{program_of}
use Rattle.lt_entry.specs.Meaning.{block_in}
use Rattle.lt_input_names.specs.Blocks.{program_types, block_of}
use Rattle.lt_spec_reader.proofs.said.shapes_of.Goals as goal

pub returns : goal.returns
returns c =
    subst (λ p. IfOk c.blocks_in.result (λ all. all.items ≡ map (λ block. block_in (program_of p) (block_of (program_types p) block)) c.args.blocks.now)) (ap (λ r. r.now) c.in_ok-types.ensures.program)
    c.blocks_in.ensures
