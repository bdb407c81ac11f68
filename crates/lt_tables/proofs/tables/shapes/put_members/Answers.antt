use Rattle.std.proofs.Common.{◌≡◌, ◌-◌, suc, arith}
use Rattle.lt_tables.proofs.StretchCells.{member_left}
use Rattle.lt_tables.proofs.tables.shapes.put_members.Goals as goal

pub members-preserved : goal.members-preserved
members-preserved c =
    let here = c.members.place in
    let next : suc (here - 1) ≡ here = omega (arith, c.members-test.true) in
    record {
      place = omega (arith, c.members.invariant.place);
      left = λ program types.
          member_left program types (c.args.depth - 1) c.args.members.now here (here - 1) c.args.offset _ c.members.left.items c.push.new.self.items c.in_ok-member_stretch.field-0 _ next c.members.invariant.place
          c.in_ok-member_stretch.ensures c.in_ok-push.ensures.items (c.members.invariant.left program types);
    }
