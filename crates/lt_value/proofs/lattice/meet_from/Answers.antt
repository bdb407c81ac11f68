use Rattle.lt_value.proofs.Members.{step_fits}
use Rattle.lt_value.proofs.Meets.{hi_from_code, below_from_code, gap_from_code, room_from_code, start_from_code, start_fits, apart_from_ends, apart_from_none, meet_is_run}
use Rattle.std.proofs.Common.{refl}
use Rattle.lt_value.proofs.lattice.meet_from.Goals as goal

pub first_common-requires-clause-s : goal.first_common-requires-clause-s
first_common-requires-clause-s c = step_fits c.args.a.now

pub first_common-requires-clause-t : goal.first_common-requires-clause-t
first_common-requires-clause-t c = step_fits c.args.b.now

pub common_step-step-requires-clause-s : goal.common_step-step-requires-clause-s
common_step-step-requires-clause-s c = step_fits c.args.a.now

pub common_step-step-requires-clause-t : goal.common_step-step-requires-clause-t
common_step-step-requires-clause-t c = step_fits c.args.b.now

pub returns-then-hi-a-clause-none : goal.returns-then-hi-a-clause-none
returns-then-hi-a-clause-none c =
    let h = hi_from_code c.args.a.now c.args.b.now _ c.min-hi.ensures.value in
    apart_from_ends c.args.a.now c.args.b.now _ h (below_from_code c.args.a.now c.args.b.now _ h c.if-hi-a.true)

pub returns-in-None-clause-none : goal.returns-in-None-clause-none
returns-in-None-clause-none c =
    let h = hi_from_code c.args.a.now c.args.b.now _ c.min-hi.ensures.value in
    apart_from_none c.args.a.now c.args.b.now _ _ _ h (gap_from_code c.args.a.now c.args.b.now _ c.distance-gap.ensures) (room_from_code c.args.a.now c.args.b.now _ _ h c.distance-room.ensures) c.in-None.ensures.none

pub run_from-requires-clause-greatest : goal.run_from-requires-clause-greatest
run_from-requires-clause-greatest c =
    let h = hi_from_code c.args.a.now c.args.b.now _ c.min-hi.ensures.value in
    let r = room_from_code c.args.a.now c.args.b.now _ _ h c.distance-room.ensures in
    let le = c.in-Some.ensures.some.common.within in
    start_fits c.args.a.now c.args.b.now _ _ _ _ h r le (start_from_code c.args.a.now c.args.b.now _ _ _ h r le)

pub returns-clause-some : goal.returns-clause-some
returns-clause-some c =
    let h = hi_from_code c.args.a.now c.args.b.now _ c.min-hi.ensures.value in
    let r = room_from_code c.args.a.now c.args.b.now _ _ h c.distance-room.ensures in
    let f = c.in-Some.ensures.some in
    meet_is_run c.args.a.now c.args.b.now c.run_from.result _ _ _ _ _ _ _ h (gap_from_code c.args.a.now c.args.b.now _ c.distance-gap.ensures) r f refl c.common_step-step.ensures (start_from_code c.args.a.now c.args.b.now _ _ _ h r f.common.within) c.run_from.ensures
