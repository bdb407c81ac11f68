use Rattle.lt_value.proofs.MadeAnswers.{answers_zero, answers_one, answers_both}
use Rattle.lt_value.proofs.operators.truth.answers.Goals as goal

pub returns-then-not-can_hold : goal.returns-then-not-can_hold
returns-then-not-can_hold c = answers_zero c.args.model c.args.op c.args.ty c.args.a.now c.args.b.now c.single.result c.can_hold.result c.requires c.can_hold.ensures c.if-not-can_hold.true c.single.ensures

pub returns-then-can_hold : goal.returns-then-can_hold
returns-then-can_hold c =
    let opposite = rw c.opposite.ensures at c.can_hold-else-not-can_hold.ensures in
    answers_both c.args.model c.args.op c.args.ty c.args.a.now c.args.b.now c.between.result c.requires (c.can_hold.ensures.0 c.if-not-can_hold.false) (opposite.0 c.if-can_hold.true) c.between.ensures

pub returns-else-can_hold : goal.returns-else-can_hold
returns-else-can_hold c =
    let opposite = rw c.opposite.ensures at c.can_hold-else-not-can_hold.ensures in
    answers_one c.args.model c.args.op c.args.ty c.args.a.now c.args.b.now c.single-else-can_hold.result c.can_hold-else-not-can_hold.result c.requires opposite c.if-can_hold.false c.single-else-can_hold.ensures
