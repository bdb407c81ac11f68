use Rattle.std.proofs.Common.{◌≡◌, map, take}
use Rattle.lt_tables.specs.Views.{label_in_code}
use Rattle.lt_tables.proofs.tables.lookups.copied_labels.Given as goal

abbrev pub invariant-loop-label : goal.invariant-loop-label
invariant-loop-label l = l.all.items ≡ map label_in_code (take l.label-index l.labels)
