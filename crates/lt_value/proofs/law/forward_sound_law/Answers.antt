use Rattle.lt_value.proofs.Wholes.{forward_sound}
use Rattle.lt_value.proofs.law.forward_sound_law.Goals as goal

pub returns : goal.returns
returns c =
    let l = c.left_operand-left.ensures in
    let r = c.right_operand-right.ensures in
    forward_sound c.args.model c.args.op c.args.ty c.args.a.now c.args.b.now c.left_operand-left.result c.right_operand-right.result l.some l.none r.some r.none
