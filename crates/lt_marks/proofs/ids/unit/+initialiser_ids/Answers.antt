use Rattle.std.proofs.Common.{ap, ◌∙◌}
use Rattle.lt_tree.specs.UnitView.{initialiser_of, initialisers_in}
use Rattle.lt_tree.specs.Ids.{greatest_id, ids_in_initialiser, ids_in_initialisers}
use Rattle.lt_marks.proofs.Greatest.{preserved, joined}
use Rattle.lt_marks.proofs.GreatestUnit.{braces_ids}
use Rattle.lt_marks.proofs.ids.unit.+initialiser_ids.Goals as goal

pub in_initialisers-list-preserved : goal.in_initialisers-list-preserved
in_initialisers-list-preserved t c =
    preserved (λ xs. ids_in_initialisers (initialisers_in xs)) c.args.list.now c.list.part-index c.part-item.result c.list.best c.in_initialiser.result _ _ c.list-test.true c.part-item.is c.max-best.ensures
    (λ rest. joined c.in_initialiser.result (ids_in_initialiser (initialiser_of c.part-item.result)) (ids_in_initialisers (initialisers_in rest)) c.in_initialiser.ensures) c.list.invariant

pub in_initialiser-returns-in-List : goal.in_initialiser-returns-in-List
in_initialiser-returns-in-List t c =
    c.in_initialisers.ensures ∙ ap (λ xs. greatest_id (ids_in_initialisers (initialisers_in xs))) c.as_slice.ensures.value
    ∙ braces_ids c.args.initialiser.now c.in-List.parts c.in-List.is
