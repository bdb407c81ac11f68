use Rattle.std.proofs.Common.{◌≡◌, map, drop}
use Rattle.lt_tree.specs.Typing.EntityView.{function_of}
use Rattle.lt_entry.specs.Conditions.{number_from}
use Rattle.lt_input_names.specs.Blocks.{program_types}
use Rattle.lt_spec_reader.proofs.entry.number_of.Given as goal

abbrev pub invariant-loop-i : goal.invariant-loop-i
invariant-loop-i l =
    number_from 0 l.name (map (function_of (program_types l.program)) l.program.functions.items) ≡ number_from l.i l.name (map (function_of (program_types l.program)) (drop l.i l.program.functions.items))
