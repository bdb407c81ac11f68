use Rattle.std.proofs.Common.{◌≡◌, map, take}
use Rattle.lt_cover.specs.Coverage.Merge.{label_keys}
use Rattle.lt_merge.specs.Keys.{key_of}
use Rattle.lt_merge.proofs.agree.keys_of_labels.Given as goal

abbrev pub invariant-loop-label : goal.invariant-loop-label
invariant-loop-label l = map key_of l.keys.items ≡ label_keys (take l.label-index l.labels)
