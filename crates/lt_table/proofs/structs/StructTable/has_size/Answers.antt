use Rattle.lt_table.proofs.StructQueries.{has_size_is}
use Rattle.lt_table.proofs.structs.StructTable.has_size.Goals as goal

pub returns-clause-value : goal.returns-clause-value
returns-clause-value c = has_size_is c.args.types.now c.args.self.now c.args.t c.in_ok-row.row c.in_ok-row.ensures.facts c.has_row_size.result c.has_row_size.ensures
