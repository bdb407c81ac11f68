use Rattle.std.proofs.Common.{take}
use Rattle.lt_table.specs.StructTables.{AreMemberRows}
use Rattle.lt_table.proofs.structs.StructTable.member_rows.Given as goal

abbrev pub invariant-loop-member : goal.invariant-loop-member
invariant-loop-member l = AreMemberRows l.types l.self (take l.member-index l.members) l.rows.items
