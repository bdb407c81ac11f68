use Rattle.std.proofs.Common.{take}
use Rattle.lt_cover.specs.Coverage.Merge.{EachMerged, IsMergedHyper}
use Rattle.lt_merge.proofs.combine.merged_hypers.Given as goal

abbrev pub invariant-loop-i : goal.invariant-loop-i
invariant-loop-i l = EachMerged IsMergedHyper (take l.i l.a) (take l.i l.b) l.hypers.items
