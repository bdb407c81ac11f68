use Rattle.std.proofs.Common.{◌≡◌, take}
use Rattle.std.specs.Prelude.{option_map}
use Rattle.std.specs.List.{filter_map}
use Rattle.lt_tree.specs.Typing.ProgramView.{program_of}
use Rattle.lt_entry.specs.Naming.{default_block}
use Rattle.lt_entry.specs.Meaning.{block_in}
use Rattle.lt_input_specs.specs.Defaults.{root_of}
use Rattle.lt_input_specs.proofs.default.blocks_in.Given as goal

abbrev pub invariant-loop-object : goal.invariant-loop-object
invariant-loop-object l =
    l.blocks.items ≡ filter_map (λ object. option_map (block_in (program_of l.kinds.program.now)) (default_block (program_of l.kinds.program.now) (root_of l.kinds.program.now object.now))) (take l.object-index l.parameters)
