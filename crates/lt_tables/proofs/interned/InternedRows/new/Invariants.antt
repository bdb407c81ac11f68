use Rattle.std.proofs.Common.{◌≡◌, ◌++◌}
use Rattle.lt_tables.proofs.interned.InternedRows.new.Given as goal

abbrev pub invariant-loop-row : goal.invariant-loop-row
invariant-loop-row l = l.rows.keys ++ l.row-iterator.rest.items ≡ l.fn.list.items
