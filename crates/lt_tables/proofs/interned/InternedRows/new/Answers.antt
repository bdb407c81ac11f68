use Rattle.std.proofs.Common.{◌++◌, ◌∙◌, ap, sym}
use Rattle.lt_tables.proofs.OnceMore.{row_taken}
use Rattle.lt_tables.proofs.interned.InternedRows.new.Goals as goal

pub loop-row-preserved : goal.loop-row-preserved
loop-row-preserved c =
    row_taken c.args.list.items c.loop-row.rows.keys c.next.new.self.rest.items c.insert.new.self.keys c.in-Some.row c.requires
    (ap (λ l. c.loop-row.rows.keys ++ l) (sym c.in-Some.ensures.steps.0) ∙ c.loop-row.invariant) c.in_ok-insert.ensures.keys
