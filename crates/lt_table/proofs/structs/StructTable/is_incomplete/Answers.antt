use Rattle.lt_table.proofs.StructQueries.{incomplete_is}
use Rattle.lt_table.proofs.structs.StructTable.is_incomplete.Goals as goal

pub returns-clause-value : goal.returns-clause-value
returns-clause-value c = incomplete_is c.args.types.now c.args.self.now c.args.t c.in_ok-row.row c.in_ok-row.ensures.facts c.is_kind_incomplete.result c.is_kind_incomplete.ensures
