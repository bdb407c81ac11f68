use Rattle.std.proofs.Common.{◌-◌, refl, arith, length}
use Rattle.lt_print.proofs.Declarators.{front_start, front_pointer, front_suffix}
use Rattle.lt_print.proofs.declarator.put_front.Goals as goal

pub loop-at-init : goal.loop-at-init
loop-at-init c = front_start c.args.named c.args.parts.now (length c.args.parts.now) c.args.out.now.items refl

pub loop-at-preserved-in-Pointer : goal.loop-at-preserved-in-Pointer
loop-at-preserved-in-Pointer c =
    front_pointer c.args.named c.args.parts.now (c.loop-at.at - 1) c.loop-at.at c.index-parts-at.result c.in-Pointer.quals c.loop-at.suffixed _ _ _ _ (omega arith) (omega arith) c.index-parts-at.is c.in-Pointer.is
    c.loop-at.invariant c.in_ok-put_sign_if.ensures c.in_ok-put_star.ensures

pub loop-at-preserved : goal.loop-at-preserved
loop-at-preserved c =
    front_suffix c.args.named c.args.parts.now (c.loop-at.at - 1) c.loop-at.at c.index-parts-at.result c.loop-at.suffixed _ _ (omega arith) (omega arith) c.index-parts-at.is c.in_default.not-Pointer c.loop-at.invariant
