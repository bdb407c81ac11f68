use Rattle.std.specs.Prelude.{map}
use Rattle.std.specs.List.{flat_map}
use Rattle.lt_tree.specs.UnitView.{init_declarator_of}
use Rattle.lt_tree.specs.Ids.{ids_in_init_declarator}
use Rattle.lt_marks.proofs.Greatest.{preserved, joined}
use Rattle.lt_marks.proofs.ids.unit.in_init_declarators.Goals as goal

pub list-preserved : goal.list-preserved
list-preserved c =
    preserved (λ xs. flat_map ids_in_init_declarator (map init_declarator_of xs)) c.args.list.now c.list.d-index c.d-item.result c.list.best c.in_init_declarator.result _ _ c.list-test.true c.d-item.is c.max-best.ensures
    (λ rest. joined c.in_init_declarator.result (ids_in_init_declarator (init_declarator_of c.d-item.result)) (flat_map ids_in_init_declarator (map init_declarator_of rest)) c.in_init_declarator.ensures) c.list.invariant
