use Rattle.std.proofs.Common.{take}
use Rattle.lt_tree.specs.Typing.TypeRows.{types_of_rows}
use Rattle.lt_tables.specs.TypeParts.{AreAllParts}
use Rattle.lt_tables.proofs.type_parts.parts_of_rows.Given as goal

abbrev pub invariant-loop-row : goal.invariant-loop-row
invariant-loop-row l = AreAllParts l.model (types_of_rows (take l.row-index l.rows)) l.parts.items
