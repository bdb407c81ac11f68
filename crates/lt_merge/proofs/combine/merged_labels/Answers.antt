use Rattle.lt_merge.specs.Keys.{IsRisingLabel}
use Rattle.lt_merge.proofs.Merging.{same_label, each_more, each_taken, as_many_labels}
use Rattle.lt_merge.proofs.combine.merged_labels.Goals as goal

pub merged_label-requires-clause-same : goal.merged_label-requires-clause-same
merged_label-requires-clause-same c = same_label _ _ _ _ _ c.requires.same c.loop-i-test.true c.index-a-i.is c.index-b-i.is

pub loop-i-preserved : goal.loop-i-preserved
loop-i-preserved c = each_more IsRisingLabel _ _ _ _ _ _ _ _ c.loop-i-test.true (as_many_labels _ _ c.requires.same) c.index-a-i.is c.index-b-i.is c.loop-i.invariant c.in_ok-push.ensures.items c.in_ok-merged_label.ensures

pub returns : goal.returns
returns c = each_taken IsRisingLabel _ _ _ _ c.loop-i-test.false (as_many_labels _ _ c.requires.same) c.loop-i.invariant
