use Rattle.std.proofs.Common.{take}
use Rattle.lt_tree.specs.Typing.TypeRows.{types_of_rows}
use Rattle.lt_table.specs.TableRows.{AllStandIn}
use Rattle.lt_table.proofs.table.TypeTable.all_known.Given as goal

abbrev pub invariant-loop-t : goal.invariant-loop-t
invariant-loop-t l = AllStandIn (types_of_rows l.self) (take l.t-index l.types)
