use Rattle.std.proofs.Common.{arith, sym, ◌∙◌}
use Rattle.lt_elim.proofs.Comparing.{whole_tells, rests_tell}
use Rattle.lt_elim.proofs.comparison.ratio_at_most.Goals as goal

pub returns-then-whole-other : goal.returns-then-whole-other
returns-then-whole-other c = whole_tells c.steps.a c.steps.b c.steps.c c.steps.d (omega (arith, c.steps-test.true)) (omega (arith, c.if-d-ne0.true)) c.if-whole-other.true ∙ sym c.steps.invariant.same

pub steps-preserved : goal.steps-preserved
steps-preserved c = record {
  same = c.steps.invariant.same ∙ rests_tell c.steps.a c.steps.b c.steps.c c.steps.d c.if-whole-other.false;
  some = λ e. omega (arith, c.if-d-ne0.true);
}
