use Rattle.std.proofs.Common.{rules, ◌≡◌, sym, subst}
use Rattle.lt_table.specs.RowsOnce.{AreOnce}
use Rattle.lt_table.proofs.RowsOnce.{table_once}
use Rattle.lt_table.proofs.table.TypeTable.into_rows.Goals as goal

pub returns-clause-once : goal.returns-clause-once
returns-clause-once c =
    let same : c.loop-row.rows.items ≡ c.args.self = search rules in
    subst AreOnce (sym same) (table_once c.self.inside.rows.entries c.args.self c.self.view_is c.self.invariant c.into_keys-row-items.ensures.unique)
