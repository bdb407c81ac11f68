use Rattle.std.proofs.Common.{sym}
use Rattle.lt_table.proofs.TableRows.{facts_at}
use Rattle.lt_table.proofs.table.TypeTable.facts.Goals as goal

pub returns-clause-facts : goal.returns-clause-facts
returns-clause-facts c = facts_at c.self.inside.rows.entries c.args.self.now c.args.t _ c.self.view_is c.self.invariant (sym c.in_ok-facts.ensures.entry)
