use Rattle.lt_input_blocks.proofs.FactRows.{pointer_row, array_row, qualified_row}
use Rattle.lt_input_blocks.proofs.facts.facts_of_row.Goals as goal

pub returns-in-Pointer : goal.returns-in-Pointer
returns-in-Pointer c = λ types all.
    pointer_row types c.args.row.now c.pointer_facts.result c.args.known.now c.in-Pointer.t c.facts_at.result all c.facts_at.ensures c.in-Pointer.is c.pointer_facts.ensures

pub returns-in-Array : goal.returns-in-Array
returns-in-Array c = λ types all.
    array_row types c.args.row.now c.array_facts.result c.args.known.now c.in-Array.t c.facts_at-in-Array.result all c.facts_at-in-Array.ensures c.in-Array.count c.in-Array.is c.array_facts.ensures

pub returns-in-Qualified : goal.returns-in-Qualified
returns-in-Qualified c = λ types all.
    qualified_row types c.args.row.now c.qualified_facts.result c.args.known.now c.in-Qualified.t c.facts_at-in-Qualified.result all c.facts_at-in-Qualified.ensures c.in-Qualified.field-0 c.in-Qualified.is
    c.qualified_facts.ensures
