use Rattle.std.proofs.Common.{◌∙◌}
use Rattle.lt_merge.proofs.TestWalks.{ends_compared}
use Rattle.lt_merge.proofs.outcomes.is_same_end.Goals as goal

pub returns : goal.returns
returns c = ends_compared c.args.a.now c.args.b.now c.as_slice.result.now c.as_slice-2.result.now c.eq.result (c.as_slice.ensures.value ∙ c.in_ok-left.ensures) (c.as_slice-2.ensures.value ∙ c.in_ok-right.ensures) c.eq.ensures
