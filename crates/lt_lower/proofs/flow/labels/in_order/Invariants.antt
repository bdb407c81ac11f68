use Rattle.std.proofs.Common.{◌≡◌, ◌++◌, map}
use Rattle.lt_lower.specs.Stands.{entry_arm}
use Rattle.lt_lower.proofs.flow.labels.in_order.Given as goal

abbrev pub invariant-table : goal.invariant-table
invariant-table l = l.table.items ++ map entry_arm l.value-iterator ≡ map entry_arm l.nodes.entries
