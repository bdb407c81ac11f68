use Rattle.std.proofs.Common.{ap, ◌∙◌, ◌++◌}
use Rattle.std.specs.Prelude.{map}
use Rattle.std.specs.List.{flat_map}
use Rattle.lt_tree.specs.UnitView.{label_of, statement_of, items_in, cases_in}
use Rattle.lt_tree.specs.Ids.{greatest_id, ids_in_label, ids_in_statement, ids_in_items, ids_in_cases}
use Rattle.lt_marks.proofs.Greatest.{preserved, joined}
use Rattle.lt_marks.proofs.GreatestUnit.{compound_ids, switch_ids}
use Rattle.lt_marks.proofs.ids.unit.+statement_ids.Goals as goal

pub in_items-list-preserved : goal.in_items-list-preserved
in_items-list-preserved t c =
    preserved (λ xs. ids_in_items (items_in xs)) c.args.list.now c.list.item-index c.item-item.result c.list.best c.in_item.result _ _ c.list-test.true c.item-item.is c.max-best.ensures
    (λ rest. c.in_item.ensures (items_in rest)) c.list.invariant

pub in_cases-list-preserved : goal.in_cases-list-preserved
in_cases-list-preserved t c =
    preserved (λ xs. ids_in_cases (cases_in xs)) c.args.list.now c.list.case-index c.case-item.result c.list.best c.in_case.result _ _ c.list-test.true c.case-item.is c.max-best.ensures
    (λ rest. joined c.in_case.result (flat_map ids_in_label (map label_of c.case-item.result.labels.items) ++ ids_in_statement (statement_of c.case-item.result.statement)) (ids_in_cases (cases_in rest)) c.in_case.ensures) c.list.invariant

pub in_statement-returns-in-Compound : goal.in_statement-returns-in-Compound
in_statement-returns-in-Compound t c =
    c.in_items.ensures ∙ ap (λ xs. greatest_id (ids_in_items (items_in xs))) c.as_slice.ensures.value ∙ compound_ids c.args.statement.now c.in-Compound.items c.in-Compound.is

pub in_statement-returns-in-Switch : goal.in_statement-returns-in-Switch
in_statement-returns-in-Switch t c =
    c.max-in-Switch.ensures
    ∙ switch_ids c.args.statement.now c.in-Switch.operand c.in-Switch.cases c.in_expression-in-Switch.result c.in_cases.result c.in-Switch.is c.in_expression-in-Switch.ensures
    (c.in_cases.ensures ∙ ap (λ xs. greatest_id (ids_in_cases (cases_in xs))) c.as_slice-in-Switch.ensures.value)
