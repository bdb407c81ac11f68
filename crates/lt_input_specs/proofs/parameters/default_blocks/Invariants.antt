use Rattle.std.proofs.Common.{◌≡◌, map, take}
use Rattle.std.specs.List.{filter_map}
use Rattle.lt_tree.specs.Typing.ProgramView.{program_of}
use Rattle.lt_entry.specs.Naming.{default_block}
use Rattle.lt_input_names.specs.Blocks.{program_types, block_of}
use Rattle.lt_input_specs.specs.Defaults.{root_of}
use Rattle.lt_input_specs.proofs.parameters.default_blocks.Given as goal

abbrev pub invariant-loop-object : goal.invariant-loop-object
invariant-loop-object l =
    map (block_of (program_types l.kinds.program.now)) l.blocks.items ≡ filter_map (λ object. default_block (program_of l.kinds.program.now) (root_of l.kinds.program.now object.now)) (take l.object-index l.parameters)
