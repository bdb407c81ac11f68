use Rattle.lt_table.proofs.StructQueries.{constant_is}
use Rattle.lt_table.proofs.structs.StructTable.has_constant_part.Goals as goal

pub returns-clause-value : goal.returns-clause-value
returns-clause-value c = constant_is c.args.types.now c.args.self.now c.args.t c.in_ok-row.row c.in_ok-row.ensures.facts c.requires c.row_constant.result c.row_constant.ensures
