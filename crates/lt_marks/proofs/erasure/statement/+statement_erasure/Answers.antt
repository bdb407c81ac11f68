use Rattle.std.proofs.Common.{ap, ap₂, sym, ◌∙◌, refl, ◌+◌, drop}
use Rattle.std.specs.Prelude.{map}
use Rattle.lt_tree.specs.Tree as tree
use Rattle.lt_tree.specs.UnitView.{label_of, statement_of, item_before, items_in, cases_in}
use Rattle.lt_tree.specs.Erasure.{erased_items, erased_cases}
use Rattle.lt_marks.proofs.ErasedUnit.{compound_erased, switch_erased}
use Rattle.lt_marks.proofs.Made.{before, ended, made, passed}
use Rattle.lt_marks.proofs.erasure.statement.+statement_erasure.Goals as goal
use Rattle.lt_marks.proofs.erasure.statement.+statement_erasure.Goals.{plain_items-in-Declaration+in_ok-declared_item-in-Declaration+in_ok-push-in-Declaration, plain_items-in-Statement+in_ok-performed_item-in-Statement+in_ok-push-in-Statement, plain_items-in-Mark}

pub plain_cases-list-preserved : goal.plain_cases-list-preserved
plain_cases-list-preserved t c =
    made (λ x. tree.a_case (map label_of x.labels.items) (statement_of x.statement)) (λ xs. erased_cases (cases_in xs)) c.args.list.now c.list.case-index c.case-item.result c.list.all.items _ c.in_ok-plain_case.field-0 _
    c.list-test.true c.case-item.is c.in_ok-push.ensures.items
    (λ rest. ap₂ (λ labels first. tree.a_case labels first (erased_cases (cases_in rest))) (sym c.in_ok-plain_case.ensures.labels) (sym c.in_ok-plain_case.ensures.statement)) c.list.invariant

pub plain_cases-returns : goal.plain_cases-returns
plain_cases-returns t c =
    ended (λ x. tree.a_case (map label_of x.labels.items) (statement_of x.statement)) (λ xs. erased_cases (cases_in xs)) cases_in c.args.list.now c.list.case-index c.list.all.items _ c.list-test.false refl (λ x xs. refl) c.list.invariant

pub plain_items-returns : goal.plain_items-returns
plain_items-returns t c =
    ended item_before (λ xs. erased_items (items_in xs)) items_in c.args.list.now c.list.item-index c.list.all.items _ c.list-test.false refl (λ x xs. refl) c.list.invariant

pub plain_statement-returns-in_ok-plain_items-in-Compound : goal.plain_statement-returns-in_ok-plain_items-in-Compound
plain_statement-returns-in_ok-plain_items-in-Compound t c =
    c.compound.ensures ∙ compound_erased c.args.statement.now c.in-Compound.items _ c.in-Compound.is (c.in_ok-plain_items-in-Compound.ensures ∙ ap (λ xs. erased_items (items_in xs)) c.as_slice.ensures.value)

pub plain_statement-returns-in_ok-cases-in-Switch : goal.plain_statement-returns-in_ok-cases-in-Switch
plain_statement-returns-in_ok-cases-in-Switch t c =
    switch_erased c.args.statement.now c.in-Switch.operand c.in-Switch.cases _ _ c.switch.result c.in-Switch.is c.as_slice-in-Switch.ensures.value c.in_ok-cases-in-Switch.ensures c.switch.ensures

pub plain_items-list-preserved : goal.plain_items-list-preserved
plain_items-list-preserved t c =
    elim c.match-item.branch [
      | plain_items-in-Declaration+in_ok-declared_item-in-Declaration+in_ok-push-in-Declaration w ↦
          made item_before (λ xs. erased_items (items_in xs)) c.args.list.now c.list.item-index c.item-item.result c.list.all.items _ w.in_ok-declared_item-in-Declaration.field-0 _
          c.list-test.true c.item-item.is (ap (λ v. v.items) w.all-is ∙ w.in_ok-push-in-Declaration.ensures.items)
          (λ rest. ap (λ item. erased_items (item_before item (items_in rest))) w.in-Declaration.is ∙ sym (w.in_ok-declared_item-in-Declaration.ensures (erased_items (items_in rest)))) c.list.invariant
      | plain_items-in-Statement+in_ok-performed_item-in-Statement+in_ok-push-in-Statement w ↦
          made item_before (λ xs. erased_items (items_in xs)) c.args.list.now c.list.item-index c.item-item.result c.list.all.items _ w.in_ok-performed_item-in-Statement.field-0 _
          c.list-test.true c.item-item.is (ap (λ v. v.items) w.all-is ∙ w.in_ok-push-in-Statement.ensures.items)
          (λ rest. ap (λ item. erased_items (item_before item (items_in rest))) w.in-Statement.is ∙ sym (w.in_ok-performed_item-in-Statement.ensures (erased_items (items_in rest)))) c.list.invariant
      | plain_items-in-Mark w ↦
          ap (λ v. before item_before v.items (erased_items (items_in (drop (c.list.item-index + 1) c.args.list.now)))) w.all-is
          ∙ passed item_before (λ xs. erased_items (items_in xs)) c.args.list.now c.list.item-index c.item-item.result c.list.all.items _ c.list-test.true c.item-item.is
          (λ rest. ap (λ item. erased_items (item_before item (items_in rest))) w.in-Mark.is) c.list.invariant
    ]
