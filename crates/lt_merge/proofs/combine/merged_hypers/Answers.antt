use Rattle.lt_cover.specs.Coverage.Merge.{IsMergedHyper}
use Rattle.lt_merge.proofs.Merging.{same_hyper, each_more, each_taken, as_many_hypers}
use Rattle.lt_merge.proofs.combine.merged_hypers.Goals as goal

pub merged_hyper-requires : goal.merged_hyper-requires
merged_hyper-requires c = same_hyper _ _ _ _ _ c.requires c.loop-i-test.true c.index-a-i.is c.index-b-i.is

pub loop-i-preserved : goal.loop-i-preserved
loop-i-preserved c = each_more IsMergedHyper _ _ _ _ _ _ _ _ c.loop-i-test.true (as_many_hypers _ _ c.requires) c.index-a-i.is c.index-b-i.is c.loop-i.invariant c.in_ok-push.ensures.items c.in_ok-merged_hyper.ensures

pub returns : goal.returns
returns c = each_taken IsMergedHyper _ _ _ _ c.loop-i-test.false (as_many_hypers _ _ c.requires) c.loop-i.invariant
