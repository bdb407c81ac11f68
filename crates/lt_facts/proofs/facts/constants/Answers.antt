use Rattle.std.proofs.Common.{◌∙◌, arith}
use Rattle.lt_tree.specs.Typing.ProgramView.{program_of}
use Rattle.lt_facts.specs.Indices.{at_place}
use Rattle.lt_facts.specs.Facts.{is_constant_fact}
use Rattle.lt_facts.proofs.Maps.{mapped_all}
use Rattle.lt_facts.proofs.FactIndices.{constants_are}
use Rattle.lt_facts.proofs.facts.constants.Goals as goal

pub returns : goal.returns
returns c = λ unit are.
    let program = program_of c.args.program.now in
    let indices = c.args.fact_indices.now in
    mapped_all (λ index. is_constant_fact (at_place program.facts index)) indices c.loop-index.index-index c.loop-index.constants.items (omega arith) c.loop-index.invariant
    ∙ constants_are unit program indices are
