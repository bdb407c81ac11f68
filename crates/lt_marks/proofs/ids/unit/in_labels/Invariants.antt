use Rattle.std.proofs.Common.{◌≡◌, max, drop}
use Rattle.std.specs.Prelude.{map}
use Rattle.std.specs.List.{flat_map}
use Rattle.lt_tree.specs.UnitView.{label_of}
use Rattle.lt_tree.specs.Ids.{greatest_id, ids_in_label}
use Rattle.lt_marks.proofs.ids.unit.in_labels.Given as goal

abbrev pub invariant-list : goal.invariant-list
invariant-list l = max l.best (greatest_id ((flat_map ids_in_label (map label_of (drop l.label-index l.list))))) ≡ greatest_id ((flat_map ids_in_label (map label_of l.list)))
