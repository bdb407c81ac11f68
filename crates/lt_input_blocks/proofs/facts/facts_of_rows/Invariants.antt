use Rattle.std.proofs.Common.{take}
use Rattle.lt_tree.specs.Typing.TypeRows.{types_of_rows}
use Rattle.lt_input_blocks.specs.Facts.{AreAllFacts}
use Rattle.lt_input_blocks.proofs.facts.facts_of_rows.Given as goal

abbrev pub invariant-loop-row : goal.invariant-loop-row
invariant-loop-row l = AreAllFacts (types_of_rows (take l.row-index l.rows)) l.facts.items
