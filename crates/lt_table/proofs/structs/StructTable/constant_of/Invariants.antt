use Rattle.std.proofs.Common.{◌≡◌, false, drop}
use Rattle.lt_table.specs.StructTables.{constant_from}
use Rattle.lt_table.proofs.structs.StructTable.constant_of.Given as goal

abbrev pub invariant-loop-row : goal.invariant-loop-row
invariant-loop-row l = constant_from l.self.known.items l.constant (drop l.row-index l.rows) ≡ constant_from l.self.known.items false l.rows
