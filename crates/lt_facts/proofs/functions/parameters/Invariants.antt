use Rattle.std.proofs.Common.{◌≡◌, ◌++◌, map, drop}
use Rattle.std.specs.List.{flat_map}
use Rattle.lt_tree.specs.Typing.ProgramView.{program_of}
use Rattle.lt_facts.specs.Parameters.{known_of, known_in}
use Rattle.lt_facts.proofs.functions.parameters.Given as goal

abbrev pub invariant-loop-number : goal.invariant-loop-number
invariant-loop-number l =
    map known_in l.parameters.items ++ flat_map (known_of (program_of l.program)) (drop l.number-index l.number-items) ≡ flat_map (known_of (program_of l.program)) l.number-items
