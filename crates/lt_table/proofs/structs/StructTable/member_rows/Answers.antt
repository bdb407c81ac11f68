use Rattle.std.proofs.Common.{sym}
use Rattle.lt_table.proofs.StructRows.{member_rows_more}
use Rattle.lt_table.proofs.structs.StructTable.member_rows.Goals as goal

pub loop-member-preserved : goal.loop-member-preserved
loop-member-preserved c =
    member_rows_more c.args.types.now c.args.self.now c.args.members.now c.loop-member.rows.items c.push.new.self.items c.loop-member.member-index c.member-item.result c.member-item.result c.in_ok-row.row
    c.loop-member.invariant c.loop-member-test.true (sym c.member-item.is) c.in_ok-row.ensures c.in_ok-push.ensures.items
