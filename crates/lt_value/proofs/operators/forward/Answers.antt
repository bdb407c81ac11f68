use Rattle.lt_value.proofs.Cuts.{if_none_of}
use Rattle.lt_value.proofs.Wholes.{both_taken, forward_some, forward_none, nothing_left, nothing_right}
use Rattle.lt_value.proofs.operators.forward.Goals as goal

pub returns-in_err-left-clause-none : goal.returns-in_err-left-clause-none
returns-in_err-left-clause-none c = if_none_of _ c.from_residual.result (nothing_left c.args.model c.args.op c.args.ty c.args.a.now c.args.b.now c.in_err-left.ensures.none)

pub returns-in_err-right-clause-none : goal.returns-in_err-right-clause-none
returns-in_err-right-clause-none c = if_none_of _ c.from_residual-in_err-right.result (nothing_right c.args.model c.args.op c.args.ty c.args.a.now c.args.b.now c.in_err-right.ensures.none)

pub operate-requires : goal.operate-requires
operate-requires c = both_taken c.args.model c.args.op c.args.ty c.args.a.now c.args.b.now c.in_ok-left.left c.in_ok-right.right c.in_ok-left.ensures.some c.in_ok-right.ensures.some

pub returns-clause-some : goal.returns-clause-some
returns-clause-some c = forward_some c.args.model c.args.op c.args.ty c.args.a.now c.args.b.now c.in_ok-left.left c.in_ok-right.right c.operate.result c.in_ok-left.ensures.some c.in_ok-right.ensures.some c.operate.ensures.some

pub returns-clause-none : goal.returns-clause-none
returns-clause-none c = forward_none c.args.model c.args.op c.args.ty c.args.a.now c.args.b.now c.in_ok-left.left c.in_ok-right.right c.operate.result c.in_ok-left.ensures.some c.in_ok-right.ensures.some c.operate.ensures.none
