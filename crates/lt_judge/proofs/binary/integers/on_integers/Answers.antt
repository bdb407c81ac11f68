use Rattle.std.proofs.Common.{[], ap}
use Rattle.lt_env.specs.Views.{typed_of, typed_in}
use Rattle.lt_judge.specs.Knowing.{known_with}
use Rattle.lt_env.proofs.Judgements.{stays_on, widens_on}
use Rattle.lt_judge.proofs.JudgedBinary.{integers_are}
use Rattle.lt_judge.proofs.binary.integers.on_integers.Goals as goal

pub returns-clause-made : goal.returns-clause-made
returns-clause-made c = λ longer more.
    let w1 = c.operand.ensures.widens in
    let w2 = c.operand-2.ensures.widens in
    let w3 = c.result_type.ensures.widens in
    let w23 = widens_on w2 w3 in
    let w123 = widens_on w1 w23 in
    let at = typed_of longer in
    integers_are (known_with longer c.args.types.now []) c.args.op (typed_in longer c.args.x) (typed_in longer c.args.y) _ _ _ _ _ _ _ _ _ _ _ _ _ _ _ _
    (ap at c.deref.ensures) (ap at c.deref-2.ensures) (ap at c.deref-3.ensures) (ap at c.deref-4.ensures) (ap at c.deref-5.ensures) (ap at c.deref-6.ensures)
    c.model-model.ensures (stays_on w123 c.in_ok-s.ensures.operation longer more) (stays_on w123 c.in_ok-s.ensures.right longer more)
    (c.in_ok-ty.ensures.made longer more) (stays_on w23 c.in_ok-left.ensures.made longer more) (stays_on w3 c.in_ok-right.ensures.made longer more)
    (c.in_ok-value.ensures longer) c.operated-constancy.ensures.is c.operated-erased.ensures.is (c.in_ok-all.ensures longer)
