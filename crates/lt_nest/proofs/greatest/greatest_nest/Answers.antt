use Rattle.std.proofs.Common.{arith, ◌<◌, [], length, sym}
use Rattle.lt_nest.specs.Views.{answer_with}
use Rattle.lt_nest.proofs.Walking.{begins, turn, stops, is_over, gives}
use Rattle.lt_nest.proofs.greatest.greatest_nest.Goals as goal

pub loop-rest-init : goal.loop-rest-init
loop-rest-init c = record {
  within = omega arith;
  fits = omega (arith, c.new-walk.ensures.most);
  goes_on = begins c.args.text.now (answer_with c.new-walk.result) c.new-walk.ensures.first;
}

pub returns-then-not-branch : goal.returns-then-not-branch
returns-then-not-branch c =
    let rest = c.loop-rest.rest.now in
    let some : 0 < length rest = omega (arith, c.front_cut-sort.ensures.some, c.front_cut-sort.ensures.within) in
    let takes = rw (c.split_at.ensures.front, c.if-not-branch.true) at c.in_ok-take.ensures.answer in
    stops c.args.text.now c.loop-rest.fresh rest c.loop-rest.invariant.within some c.front_cut-sort.result c.front_cut-sort.ensures.value (answer_with c.loop-rest.walk) c.loop-rest.invariant.goes_on takes

pub loop-rest-preserved : goal.loop-rest-preserved
loop-rest-preserved c =
    let rest = c.loop-rest.rest.now in
    let some : 0 < length rest = omega (arith, c.front_cut-sort.ensures.some, c.front_cut-sort.ensures.within) in
    let takes = rw (c.split_at.ensures.front, c.if-not-branch.false) at c.in_ok-take.ensures.answer in
    let on = turn c.args.text.now c.loop-rest.fresh rest c.loop-rest.invariant.within some c.front_cut-sort.result c.front_cut-sort.ensures.value (answer_with c.loop-rest.walk) c.loop-rest.invariant.goes_on (answer_with c.take.new.self) takes in
    record {
      within = omega (arith, c.split_at.ensures.back_len);
      fits = omega (arith, c.split_at.ensures.back_len, c.in_ok-take.ensures.most, c.front_cut-sort.ensures.some, c.loop-rest.invariant.fits);
      goes_on = rw (c.fresh_after-fresh.ensures, c.split_at.ensures.front, c.split_at.ensures.back) on;
    }

pub returns : goal.returns
returns c = gives c.args.text.now (answer_with c.loop-rest.walk []) c.end.result (is_over c.args.text.now c.loop-rest.fresh c.loop-rest.rest.now (answer_with c.loop-rest.walk) (sym c.loop-rest-test.ensures) c.loop-rest.invariant.goes_on) c.end.ensures
