use Rattle.std.proofs.Common.{◌≡◌, drop}
use Rattle.lt_table.specs.StructTables.{cells_from}
use Rattle.lt_table.proofs.structs.StructTable.cells_of.Given as goal

abbrev pub invariant-loop-row : goal.invariant-loop-row
invariant-loop-row l = cells_from l.self.known.items l.cells (drop l.row-index l.rows) ≡ cells_from l.self.known.items 0 l.rows
