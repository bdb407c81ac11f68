use Rattle.std.proofs.Common.{arith, rules, ◌∙◌, ◌+◌}
use mir.Val.{SFits}
use mir.Syntax.{w128}
use Rattle.std.proofs.lemmas.Int.{to_z-of_z}
use Rattle.lt_lin.specs.Room.{places, terms_in}
use Rattle.lt_lin.proofs.Taking.{row_taken, row_refused, division_gives, MadeRoom}
use Rattle.lt_lin.proofs.lines.take_division.Goals as goal

pub returns-in-None : goal.returns-in-None
returns-in-None c =
    let fd = c.ranges.divisor in
    let s = simp to_z-of_z at c.in-None.ensures.quotient in
    let none = rw c.make_room.ensures.rows at s in
    let n = c.terms_in-terms.ensures in
    let m : MadeRoom (places c.args.desk.now.known.rows + 1 + terms_in c.args.desk.now.known.rows c.args.row) c.args.desk.now.limit c.make_room.new.self.limit = record {
      grows = c.make_room.ensures.grows;
      ok = omega (arith, c.in_ok-make_room.ensures.ok, n);
      same = λ h. c.make_room.ensures.same (omega (arith, n, h));
    } in
    row_refused _ _ _ _ _ _ _ _ (division_gives c.args.row c.args.divisor c.args.desk.now.known.rows) m none c.make_room.ensures.rows

pub returns-in-Some : goal.returns-in-Some
returns-in-Some c =
    let fd = c.ranges.divisor in
    let fk : SFits w128 c.in-Some.constant = search rules in
    let k = simp to_z-of_z at c.keep_row.ensures.rows in
    let e = rw c.make_room.ensures.rows at k in
    let s = simp to_z-of_z at c.in-Some.ensures.quotient in
    let is = rw c.make_room.ensures.rows at s in
    let n = c.terms_in-terms.ensures in
    let m : MadeRoom (places c.args.desk.now.known.rows + 1 + terms_in c.args.desk.now.known.rows c.args.row) c.args.desk.now.limit c.keep_row.new.desk.limit = record {
      grows = omega (arith, c.keep_row.ensures.limit, c.make_room.ensures.grows);
      ok = omega (arith, c.keep_row.ensures.limit, c.in_ok-make_room.ensures.ok, n);
      same = λ h. c.keep_row.ensures.limit ∙ c.make_room.ensures.same (omega (arith, n, h));
    } in
    row_taken _ _ _ _ _ _ _ _ _ _ (division_gives c.args.row c.args.divisor c.args.desk.now.known.rows) m is e c.keep_row.ensures.split c.keep_row.ensures.told
