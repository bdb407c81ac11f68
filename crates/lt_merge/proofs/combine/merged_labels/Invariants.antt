use Rattle.std.proofs.Common.{take}
use Rattle.lt_cover.specs.Coverage.Merge.{EachMerged}
use Rattle.lt_merge.specs.Keys.{IsRisingLabel}
use Rattle.lt_merge.proofs.combine.merged_labels.Given as goal

abbrev pub invariant-loop-i : goal.invariant-loop-i
invariant-loop-i l = EachMerged IsRisingLabel (take l.i l.a) (take l.i l.b) l.labels.items
