use Rattle.std.proofs.Common.{◌≡◌, ◌++◌}
use Rattle.lt_table.proofs.table.TypeTable.into_rows.Given as goal

abbrev pub invariant-loop-row : goal.invariant-loop-row
invariant-loop-row l = l.rows.items ++ l.row-iterator ≡ l.initial.row-iterator
