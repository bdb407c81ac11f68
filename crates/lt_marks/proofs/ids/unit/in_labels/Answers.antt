use Rattle.std.specs.Prelude.{map}
use Rattle.std.specs.List.{flat_map}
use Rattle.lt_tree.specs.UnitView.{label_of}
use Rattle.lt_tree.specs.Ids.{ids_in_label}
use Rattle.lt_marks.proofs.Greatest.{preserved, joined}
use Rattle.lt_marks.proofs.ids.unit.in_labels.Goals as goal

pub list-preserved : goal.list-preserved
list-preserved c =
    preserved (λ xs. flat_map ids_in_label (map label_of xs)) c.args.list.now c.list.label-index c.label-item.result c.list.best c.in_label.result _ _ c.list-test.true c.label-item.is c.max-best.ensures
    (λ rest. joined c.in_label.result (ids_in_label (label_of c.label-item.result)) (flat_map ids_in_label (map label_of rest)) c.in_label.ensures) c.list.invariant
