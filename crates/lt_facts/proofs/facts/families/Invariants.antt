use Rattle.std.proofs.Common.{◌≡◌, ◌++◌, map, drop}
use Rattle.lt_tree.specs.Typing.ProgramView.{program_of}
use Rattle.lt_facts.specs.Indices.{at_place}
use Rattle.lt_facts.specs.Families.{family}
use Rattle.lt_facts.specs.Facts.{type_of_fact}
use Rattle.lt_facts.proofs.facts.families.Given as goal

abbrev pub invariant-loop-index : goal.invariant-loop-index
invariant-loop-index l =
    l.families.items ++ map (λ index. family l.program.model (type_of_fact (at_place (program_of l.program).facts index))) (drop l.index-index l.fact_indices)
    ≡ map (λ index. family l.program.model (type_of_fact (at_place (program_of l.program).facts index))) l.fact_indices
