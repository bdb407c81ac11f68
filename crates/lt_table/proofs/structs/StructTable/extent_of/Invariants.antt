use Rattle.std.proofs.Common.{◌≡◌, drop}
use Rattle.lt_model.specs.Layout.{no_members}
use Rattle.lt_table.specs.StructTables.{extent_from, extent_value}
use Rattle.lt_table.proofs.structs.StructTable.extent_of.Given as goal

abbrev pub invariant-loop-row : goal.invariant-loop-row
invariant-loop-row l = extent_from l.self.model l.self.known.items (extent_value l.before) (drop l.row-index l.rows) ≡ extent_from l.self.model l.self.known.items no_members l.rows
