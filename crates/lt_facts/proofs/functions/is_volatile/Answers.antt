use Rattle.std.proofs.Common.{◌∙◌}
use Rattle.lt_facts.proofs.RowQualifiers.{volatile_at, volatile_past}
use Rattle.lt_facts.proofs.functions.is_volatile.Goals as goal

pub returns-in-None : goal.returns-in-None
returns-in-None c = volatile_past c.args.rows.now c.args.t c.in-None.ensures.lookup.3

pub returns-in-Some : goal.returns-in-Some
returns-in-Some c = let found = c.in-Some.ensures.lookup in c.is_volatile_row.ensures ∙ volatile_at c.args.rows.now c.args.t c.in-Some.row.now found.3.0 found.1
