use Rattle.lt_tree.specs.Typing.Expressions.{has_floating, has_pointer_to_function}
use Rattle.lt_judge.proofs.PassedArguments.{one_unread}
use Rattle.lt_judge.proofs.calls.unread_among.Goals as goal

pub loop-t-preserved : goal.loop-t-preserved
loop-t-preserved c = record {
  floating = λ longer more.
      one_unread has_floating longer c.args.ts.now c.loop-t.t-index _ c.loop-t.floating c.in_ok-this.this.floating c.either-floating.result c.loop-t-test.true c.either-floating.ensures
      (c.loop-t.invariant.floating longer more) (c.in_ok-this.ensures.floating longer more);
  function = λ longer more.
      one_unread has_pointer_to_function longer c.args.ts.now c.loop-t.t-index _ c.loop-t.function c.in_ok-this.this.function c.either-function.result c.loop-t-test.true c.either-function.ensures
      (c.loop-t.invariant.function longer more) (c.in_ok-this.ensures.function longer more);
}
