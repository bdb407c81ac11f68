use Rattle.std.proofs.Common.{arith, rules, ◌∙◌, get_or, pos}
use mir.Val.{SFits}
use mir.Syntax.{w128}
use Rattle.std.proofs.lemmas.Int.{to_z-of_z}
use Rattle.lt_lin.proofs.Sums.{sum_step, sum_stop, sum_end, room_step}
use Rattle.lt_lin.proofs.derive.sum_of_rows.Goals as goal

pub add_row-requires : goal.add_row-requires
add_row-requires c =
    omega (arith, room_step c.args.known.now.rows c.args.pairs.now c.pairs.row-index (0, pos 0) c.pairs-test.true, c.pairs.invariant.room, c.pairs.invariant.limit, c.requires)

pub returns-in-None-clause-sum : goal.returns-in-None-clause-sum
returns-in-None-clause-sum c =
    let fe : SFits w128 (get_or c.args.pairs.now c.pairs.row-index (0, pos 0)).1 = search rules in
    let s = simp to_z-of_z at c.in-None.ensures.sum in
    sum_stop c.args.known.now.rows c.args.pairs.now c.pairs.row-index (0, pos 0) _ c.pairs-test.true s c.pairs.invariant.sum

pub pairs-preserved : goal.pairs-preserved
pairs-preserved c =
    let fe : SFits w128 (get_or c.args.pairs.now c.pairs.row-index (0, pos 0)).1 = search rules in
    let fn : SFits w128 c.in-Some.next = search rules in
    let s = simp to_z-of_z at c.in-Some.ensures.sum in
    record {
      sum = simp to_z-of_z (sum_step c.args.known.now.rows c.args.pairs.now c.pairs.row-index (0, pos 0) _ _ c.pairs-test.true s c.pairs.invariant.sum);
      ordered = c.in-Some.ensures.ordered;
      room = omega (arith, room_step c.args.known.now.rows c.args.pairs.now c.pairs.row-index (0, pos 0) c.pairs-test.true, c.pairs.invariant.room, c.in-Some.ensures.len);
      limit = c.in-Some.ensures.limit ∙ c.pairs.invariant.limit;
    }

pub returns-clause-sum : goal.returns-clause-sum
returns-clause-sum c =
    sum_end c.args.known.now.rows c.args.pairs.now c.pairs.row-index _ (omega (arith, c.pairs-test.false)) c.pairs.invariant.ordered c.pairs.invariant.sum
