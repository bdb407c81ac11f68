use Rattle.lt_value.proofs.Wholes.{forward_monotone}
use Rattle.lt_value.proofs.law.forward_monotone_law.Goals as goal

pub returns : goal.returns
returns c =
    let l = c.left_operand-left.ensures in
    let r = c.right_operand-right.ensures in
    forward_monotone c.args.model c.args.op c.args.ty c.args.a.now c.args.b.now c.args.c.now c.args.d.now c.left_operand-left.result c.right_operand-right.result c.requires.left c.requires.right l.some l.none r.some r.none
