use Rattle.std.proofs.Common.{sym}
use Rattle.lt_table.proofs.TableRows.{is_row_at}
use Rattle.lt_table.proofs.table.TypeTable.row.Goals as goal

pub returns-clause-is : goal.returns-clause-is
returns-clause-is c = is_row_at c.self.inside.rows.entries c.args.self.now c.args.t _ c.self.view_is c.self.invariant (sym c.in_ok-row.ensures.entry)
