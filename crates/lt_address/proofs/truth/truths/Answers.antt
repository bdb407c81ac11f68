use Rattle.std.proofs.Common.{refl, true, false}
use Rattle.lt_address.proofs.Parts.{both_truths, one_truth, cannot}
use Rattle.lt_address.proofs.truth.truths.Goals as goal

pub returns-then-is_false-clause-some : goal.returns-then-is_false-clause-some
returns-then-is_false-clause-some c =
    one_truth c.args.value.now c.single.result false _ refl (c.can_be_false-is_false.ensures.0 c.if-is_false.true) (cannot c.can_be_true-is_true.result c.if-not-is_true.true c.can_be_true-is_true.ensures.1) c.single.ensures

pub returns-then-is_false-2-clause-some : goal.returns-then-is_false-2-clause-some
returns-then-is_false-2-clause-some c =
    both_truths c.args.value.now c.between.result _ _ refl refl (c.can_be_true-is_true.ensures.0 c.if-not-is_true.false) (c.can_be_false-is_false.ensures.0 c.if-is_false-2.true) c.between.ensures

pub returns-else-is_false-2-clause-some : goal.returns-else-is_false-2-clause-some
returns-else-is_false-2-clause-some c =
    one_truth c.args.value.now c.single-else-is_false-2.result true _ refl (c.can_be_true-is_true.ensures.0 c.if-not-is_true.false) (cannot c.can_be_false-is_false.result c.if-is_false-2.false c.can_be_false-is_false.ensures.1) c.single-else-is_false-2.ensures
