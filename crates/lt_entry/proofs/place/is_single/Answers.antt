use Rattle.std.proofs.Common.{◌∙◌, sym}
use Rattle.lt_entry.specs.Written.{is_one}
use Rattle.lt_entry.specs.Views.{step_view}
use Rattle.lt_entry.proofs.LinesRead.{all_more, all_stop}
use Rattle.lt_entry.proofs.place.is_single.Goals as goal

pub returns-then-not-is_one : goal.returns-then-not-is_one
returns-then-not-is_one c =
    rw (← c.as_slice-step-items.ensures.value)
    (sym (all_stop is_one step_view c.as_slice-step-items.result.now c.loop-step.step-index _ c.loop-step-test.true (sym c.is_one.ensures ∙ c.if-not-is_one.true)))

pub loop-step-preserved : goal.loop-step-preserved
loop-step-preserved c = all_more is_one step_view c.as_slice-step-items.result.now c.loop-step.step-index _ c.loop-step-test.true c.loop-step.invariant (sym c.is_one.ensures ∙ c.if-not-is_one.false)
