use Rattle.std.proofs.Common.{arith, rules, ◌∙◌, ◌+◌}
use mir.Val.{SFits}
use mir.Syntax.{w128}
use Rattle.std.proofs.lemmas.Int.{to_z-of_z}
use Rattle.lt_lin.specs.Room.{places, terms_added}
use Rattle.lt_lin.proofs.Taking.{row_taken, combination_gives, MadeRoom}
use Rattle.lt_lin.proofs.lines.take_combination.Goals as goal

pub returns-in-Some-sum : goal.returns-in-Some-sum
returns-in-Some-sum c =
    let fk : SFits w128 c.in-Some-sum.constant = search rules in
    let k = simp to_z-of_z at c.keep_row.ensures.rows in
    let e = rw c.make_room.ensures.rows at k in
    let is = rw c.make_room.ensures.rows at c.in-Some-sum.ensures.sum in
    let n = (c.in-Some.ensures {u = tt}).1 in
    let m : MadeRoom (places c.args.desk.now.known.rows + 1 + terms_added c.args.desk.now.known.rows c.args.pairs.now) c.args.desk.now.limit c.keep_row.new.desk.limit = record {
      grows = omega (arith, c.keep_row.ensures.limit, c.make_room.ensures.grows);
      ok = omega (arith, c.keep_row.ensures.limit, c.in_ok-make_room.ensures.ok, n);
      same = λ h. c.keep_row.ensures.limit ∙ c.make_room.ensures.same (omega (arith, n, h));
    } in
    row_taken _ _ _ _ _ _ _ _ _ _ (combination_gives c.args.pairs.now c.args.desk.now.known.rows) m is e c.keep_row.ensures.split c.keep_row.ensures.told
