use Rattle.std.specs.Prelude.{map}
use Rattle.lt_tree.specs.UnitView.{external_of}
use Rattle.lt_tree.specs.Ids.{ids_of_unit, ids_in_external}
use Rattle.lt_marks.proofs.Greatest.{preserved, joined}
use Rattle.lt_marks.proofs.ids.unit.in_externals.Goals as goal

pub list-preserved : goal.list-preserved
list-preserved c =
    preserved (λ xs. ids_of_unit (map external_of xs)) c.args.list.now c.list.external-index c.external-item.result c.list.best c.in_external.result _ _ c.list-test.true c.external-item.is c.max-best.ensures
    (λ rest. joined c.in_external.result (ids_in_external (external_of c.external-item.result)) (ids_of_unit (map external_of rest)) c.in_external.ensures) c.list.invariant
