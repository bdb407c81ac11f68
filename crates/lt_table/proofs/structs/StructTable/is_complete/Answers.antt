use Rattle.lt_table.proofs.StructQueries.{complete_is}
use Rattle.lt_table.proofs.structs.StructTable.is_complete.Goals as goal

pub returns-clause-value : goal.returns-clause-value
returns-clause-value c = complete_is c.args.types.now c.args.self.now c.args.t c.in_ok-row.row c.in_ok-row.ensures.facts c.is_row_complete.result c.is_row_complete.ensures
