use Rattle.std.proofs.Common.{◌≡◌, ◌++◌, map, drop}
use Rattle.std.specs.List.{flat_map}
use Rattle.lt_tree.specs.Pieces.{text_of}
use Rattle.lt_tree.specs.UnitView.{label_of}
use Rattle.lt_tree.specs.CanonUnits.{label_line}
use Rattle.lt_print.proofs.statement.put_labels.Given as goal

abbrev pub invariant-loop-label : goal.invariant-loop-label
invariant-loop-label l = l.out.items ++ text_of (flat_map (label_line l.line) (map label_of (drop l.label-index l.labels))) ≡ l.fn.out.items ++ text_of (flat_map (label_line l.line) (map label_of l.labels))
