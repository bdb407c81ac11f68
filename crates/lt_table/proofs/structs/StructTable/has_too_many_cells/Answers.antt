use Rattle.std.proofs.Common.{refl}
use Rattle.lt_table.proofs.StructQueries.{too_many_is}
use Rattle.lt_table.proofs.structs.StructTable.has_too_many_cells.Goals as goal

pub returns-clause-value : goal.returns-clause-value
returns-clause-value c = too_many_is c.args.types.now c.args.self.now c.args.t c.in_ok-row.row c.in_ok-row.ensures.facts c.requires _ c.row_cells.result refl c.row_cells.ensures
