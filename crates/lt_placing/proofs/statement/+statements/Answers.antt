use Rattle.std.proofs.Common.{◌≡◌, refl, sym, ap, ap₂, ◌∙◌, ◌+◌, ◌++◌, length, length-append}
use Rattle.std.specs.Prelude.{map, option_map}
use Rattle.std.specs.List.{flat_map}
use Rattle.lt_tree.specs.Tree as tree
use Rattle.lt_tree.specs.View.{expression_of}
use Rattle.lt_tree.specs.UnitView.{start_of, label_of, statement_of, item_before, items_in, cases_in}
use Rattle.lt_tree.specs.Nodes.{in_label, in_statement, in_items, in_cases}
use Rattle.lt_objectives.specs.Marked.{with_marks, optional_with_marks, statement_with_marks, items_with_marks, cases_with_marks}
use Rattle.std.proofs.Common.{suc, subst}
use Rattle.lt_placing.specs.Walks.{Passes}
use Rattle.lt_tree.specs.declared.statement.Stmt.TheVariants as variant
use Rattle.lt_placing.proofs.StatementParts.{items_sized, case_turn, three_sized, for_statement, for_parts, declared_item, stated_item, marked_item, boxed_statement, case_is}
use Rattle.lt_placing.specs.Parts.{in_item}
use Rattle.lt_placing.proofs.Loops.{begun, further, finished}
use Rattle.lt_placing.proofs.Sequences.{no_part, one_part, two_parts, three_parts}
use Rattle.lt_tree.proofs.UnitRows.{compound_is, switch_is}
use Rattle.lt_placing.proofs.statement.+statements.Goals as goal

pub items-list-init : goal.items-list-init
items-list-init t' c = begun item_before (λ new k xs. items_with_marks new k (items_in xs)) (λ xs. in_items (items_in xs)) _ _ _ c.new-all.ensures.items

pub items-list-preserved : goal.items-list-preserved
items-list-preserved t' c =
    further item_before (λ new k xs. items_with_marks new k (items_in xs)) (λ xs. in_items (items_in xs)) _ _ _ c.args.list.now c.list.each-index c.each-item.result c.list.all.items _ c.in_ok-item.field-0
    (in_item c.each-item.result) c.list-test.true c.each-item.is c.in_ok-push.ensures.items (λ rest. items_sized c.each-item.result rest)
    (λ new k at. let so = c.in_ok-item.ensures new k at in ((λ rest. so.0 (items_in rest)), so.1)) c.list.invariant

pub items-returns : goal.items-returns
items-returns t' c =
    finished item_before (λ new k xs. items_with_marks new k (items_in xs)) (λ xs. in_items (items_in xs)) _ _ items_in c.args.list.now c.list.each-index c.list.all.items c.list-test.false (λ new j. refl) (λ y ys. refl) refl c.list.invariant

pub cases-list-init : goal.cases-list-init
cases-list-init t' c = begun (λ y. tree.a_case (map label_of y.labels.items) (statement_of y.statement)) (λ new k xs. cases_with_marks new k (cases_in xs)) (λ xs. in_cases (cases_in xs)) _ _ _ c.new-all.ensures.items

pub cases-list-preserved : goal.cases-list-preserved
cases-list-preserved t' c =
    further (λ y. tree.a_case (map label_of y.labels.items) (statement_of y.statement)) (λ new k xs. cases_with_marks new k (cases_in xs)) (λ xs. in_cases (cases_in xs)) _ _ _ c.args.list.now c.list.each-index c.each-item.result c.list.all.items _ c.in_ok-switch_case.field-0
    (flat_map in_label (map label_of c.each-item.result.labels.items) ++ in_statement (statement_of c.each-item.result.statement)) c.list-test.true c.each-item.is c.in_ok-push.ensures.items (λ rest. length-append _ _)
    (λ new k at. let so = c.in_ok-switch_case.ensures new k at in
    ((λ rest. case_turn new k _ _ _ _ (cases_in rest) so.0.0 so.0.1), so.1)) c.list.invariant

pub cases-returns : goal.cases-returns
cases-returns t' c =
    finished (λ y. tree.a_case (map label_of y.labels.items) (statement_of y.statement)) (λ new k xs. cases_with_marks new k (cases_in xs)) (λ xs. in_cases (cases_in xs)) _ _ cases_in c.args.list.now c.list.each-index c.list.all.items c.list-test.false (λ new j. refl) (λ y ys. refl) refl c.list.invariant

pub statement-returns-in_ok-items-in-Compound : goal.statement-returns-in_ok-items-in-Compound
statement-returns-in_ok-items-in-Compound t' c =
    one_part statement_with_marks in_statement tree.Compound _ _ (items_in c.as_slice.result.now) (items_in c.in_ok-items-in-Compound.field-0.items) (λ new k. items_with_marks new k (items_in c.as_slice.result.now)) _ (ap statement_of c.in-Compound.is ∙ compound_is c.in-Compound.list ∙ ap (λ xs. tree.Compound (items_in xs)) (sym c.as_slice.ensures.value)) c.compound.ensures (λ new k. refl) refl c.step.ensures c.in_ok-items-in-Compound.ensures

pub statement-returns-in_ok-expression-in-Expression : goal.statement-returns-in_ok-expression-in-Expression
statement-returns-in_ok-expression-in-Expression t' c =
    one_part statement_with_marks in_statement tree.Evaluates _ _ (expression_of c.in-Expression.e) (expression_of c.in_ok-expression-in-Expression.field-0) (λ new k. with_marks new k (expression_of c.in-Expression.e)) _ (ap statement_of c.in-Expression.is) c.expression-in-Expression.ensures (λ new k. refl) refl c.step.ensures c.in_ok-expression-in-Expression.ensures

pub statement-returns-in-Null : goal.statement-returns-in-Null
statement-returns-in-Null t' c = no_part statement_with_marks in_statement _ _ tree.Null (ap statement_of c.in-Null.is) c.null.ensures (λ new k. refl) refl c.step.ensures

pub statement-returns-in-Break : goal.statement-returns-in-Break
statement-returns-in-Break t' c = no_part statement_with_marks in_statement _ _ tree.Break (ap statement_of c.in-Break.is) c.break_out.ensures (λ new k. refl) refl c.step.ensures

pub statement-returns-in-Continue : goal.statement-returns-in-Continue
statement-returns-in-Continue t' c = no_part statement_with_marks in_statement _ _ tree.Continue (ap statement_of c.in-Continue.is) c.continue_on.ensures (λ new k. refl) refl c.step.ensures

pub statement-returns-in-None : goal.statement-returns-in-None
statement-returns-in-None t' c =
    two_parts statement_with_marks in_statement tree.If _ _ (expression_of c.in-If.test) (expression_of c.in_ok-test-in-If.test.value) (statement_of c.deref.result.now) (statement_of c.in_ok-taken-in-If.taken.value)
    (λ new k. with_marks new k (expression_of c.in-If.test)) (λ new k. statement_with_marks new k (statement_of c.deref.result.now)) _ _
    (ap statement_of c.in-If.is ∙ ap (λ o. statement_of (variant.If c.in-If.test c.in-If.taken o)) c.in-None.is ∙ ap (λ x. tree.If (expression_of c.in-If.test) (statement_of x)) (sym c.deref.ensures))
    (c.if_alone.ensures ∙ ap (λ x. tree.If (expression_of x) (statement_of c.in_ok-taken-in-If.taken.value)) c.into_inner.ensures) (λ new k. refl) (ap suc (length-append _ _)) c.step.ensures
    c.in_ok-test-in-If.ensures c.in_ok-taken-in-If.ensures

pub statement-returns-in_ok-other-in-Some : goal.statement-returns-in_ok-other-in-Some
statement-returns-in_ok-other-in-Some t' c =
    three_parts statement_with_marks in_statement tree.IfElse _ _ (expression_of c.in-If.test) (expression_of c.in_ok-test-in-If.test.value) (statement_of c.deref.result.now) (statement_of c.in_ok-taken-in-If.taken.value)
    (statement_of c.deref-in-Some.result.now) (statement_of c.in_ok-other-in-Some.other.value)
    (λ new k. with_marks new k (expression_of c.in-If.test)) (λ new k. statement_with_marks new k (statement_of c.deref.result.now)) (λ new k. statement_with_marks new k (statement_of c.deref-in-Some.result.now)) _ _ _
    (ap statement_of c.in-If.is ∙ ap (λ o. statement_of (variant.If c.in-If.test c.in-If.taken o)) c.in-Some.is
    ∙ ap₂ (λ x y. tree.IfElse (expression_of c.in-If.test) (statement_of x) (statement_of y)) (sym c.deref.ensures) (sym c.deref-in-Some.ensures))
    (c.if_else.ensures ∙ ap (λ x. tree.IfElse (expression_of x) (statement_of c.in_ok-taken-in-If.taken.value) (statement_of c.in_ok-other-in-Some.other.value)) c.into_inner-in-Some.ensures)
    (λ new k. refl) (three_sized _ _ _) c.step.ensures c.in_ok-test-in-If.ensures c.in_ok-taken-in-If.ensures c.in_ok-other-in-Some.ensures

pub statement-returns-in_ok-inner-in-While : goal.statement-returns-in_ok-inner-in-While
statement-returns-in_ok-inner-in-While t' c =
    two_parts statement_with_marks in_statement tree.While _ _ (expression_of c.in-While.test) (expression_of c.in_ok-test-in-While.test.value) (statement_of c.deref-in-While.result.now) (statement_of c.in_ok-inner-in-While.inner.value)
    (λ new k. with_marks new k (expression_of c.in-While.test)) (λ new k. statement_with_marks new k (statement_of c.deref-in-While.result.now)) _ _
    (ap statement_of c.in-While.is ∙ ap (λ x. tree.While (expression_of c.in-While.test) (statement_of x)) (sym c.deref-in-While.ensures))
    (c.while_loop.ensures ∙ ap (λ x. tree.While (expression_of x) (statement_of c.in_ok-inner-in-While.inner.value)) c.into_inner-in-While.ensures) (λ new k. refl) (ap suc (length-append _ _)) c.step.ensures
    c.in_ok-test-in-While.ensures c.in_ok-inner-in-While.ensures

pub statement-returns-in_ok-expression-in-Do : goal.statement-returns-in_ok-expression-in-Do
statement-returns-in_ok-expression-in-Do t' c =
    two_parts statement_with_marks in_statement tree.Do _ _ (statement_of c.deref-in-Do.result.now) (statement_of c.in_ok-inner-in-Do.inner.value) (expression_of c.in-Do.test) (expression_of c.in_ok-expression-in-Do.field-0)
    (λ new k. statement_with_marks new k (statement_of c.deref-in-Do.result.now)) (λ new k. with_marks new k (expression_of c.in-Do.test)) _ _
    (ap statement_of c.in-Do.is ∙ ap (λ x. tree.Do (statement_of x) (expression_of c.in-Do.test)) (sym c.deref-in-Do.ensures))
    c.do_loop.ensures (λ new k. refl) (ap suc (length-append _ _)) c.step.ensures c.in_ok-inner-in-Do.ensures c.in_ok-expression-in-Do.ensures

pub statement-returns-in-For : goal.statement-returns-in-For
statement-returns-in-For t' c =
    for_statement c.for_loop.result _ _ _ _ _ _ _ _ (ap statement_of c.in-For.is ∙ ap (λ x. tree.For (start_of c.in-For.start) (option_map expression_of c.in-For.test) (option_map expression_of c.in-For.step) (statement_of x)) (sym c.deref-in-For.ensures))
    c.step.ensures c.for_loop.ensures

pub statement-returns-in_ok-cases-in-Switch : goal.statement-returns-in_ok-cases-in-Switch
statement-returns-in_ok-cases-in-Switch t' c =
    two_parts statement_with_marks in_statement tree.Switch _ _ (expression_of c.in-Switch.operand) (expression_of c.in_ok-operand-in-Switch.operand.value) (cases_in c.as_slice-in-Switch.result.now) (cases_in c.in_ok-cases-in-Switch.cases.items)
    (λ new k. with_marks new k (expression_of c.in-Switch.operand)) (λ new k. cases_with_marks new k (cases_in c.as_slice-in-Switch.result.now)) _ _
    (ap statement_of c.in-Switch.is ∙ switch_is c.in-Switch.operand c.in-Switch.list ∙ ap (λ xs. tree.Switch (expression_of c.in-Switch.operand) (cases_in xs)) (sym c.as_slice-in-Switch.ensures.value))
    (c.switch.ensures ∙ ap (λ x. tree.Switch (expression_of x) (cases_in c.in_ok-cases-in-Switch.cases.items)) c.into_inner-in-Switch.ensures) (λ new k. refl) (ap suc (length-append _ _)) c.step.ensures
    c.in_ok-operand-in-Switch.ensures c.in_ok-cases-in-Switch.ensures

pub statement-returns-in_ok-optional-in-Return : goal.statement-returns-in_ok-optional-in-Return
statement-returns-in_ok-optional-in-Return t' c =
    one_part statement_with_marks in_statement tree.Return _ _ (option_map expression_of c.in-Return.value) (option_map expression_of c.in_ok-optional-in-Return.field-0) (λ new k. optional_with_marks new k (option_map expression_of c.in-Return.value)) _ (ap statement_of c.in-Return.is) c.return_from.ensures (λ new k. refl) refl c.step.ensures c.in_ok-optional-in-Return.ensures

pub for_loop-returns : goal.for_loop-returns
for_loop-returns t' c =
    for_parts _ _ _ _ _ _ _ _ _ _ _ _ _ _ c.for_loop.ensures c.in_ok-start.ensures c.in_ok-test.ensures c.in_ok-step.ensures c.in_ok-inner.ensures

pub item-returns-in_ok-declaration-in-Declaration : goal.item-returns-in_ok-declaration-in-Declaration
item-returns-in_ok-declaration-in-Declaration t' c =
    declared_item _ _ _ _ _ c.in-Declaration.d c.in_ok-declaration-in-Declaration.field-0 c.in-Declaration.is c.declared.ensures c.step.ensures c.in_ok-declaration-in-Declaration.ensures

pub item-returns-in_ok-statement-in-Statement : goal.item-returns-in_ok-statement-in-Statement
item-returns-in_ok-statement-in-Statement t' c =
    stated_item _ _ _ _ _ _ _ c.in-Statement.is c.performed.ensures c.step.ensures c.in_ok-statement-in-Statement.ensures

pub item-returns-in_ok-mark-in-Mark : goal.item-returns-in_ok-mark-in-Mark
item-returns-in_ok-mark-in-Mark t' c =
    marked_item _ _ _ _ _ _ _ c.in-Mark.is c.labelled.ensures c.step.ensures c.in_ok-mark-in-Mark.ensures

pub switch_case-returns : goal.switch_case-returns
switch_case-returns t' c =
    subst (λ xs. Passes c.args.walk.now c.statement.new.walk (λ new k. (map label_of c.in_ok-labels.labels.items ≡ map label_of xs) × (statement_of c.in_ok-statement.field-0 ≡ statement_with_marks new (k + length (flat_map in_label (map label_of xs))) (statement_of c.args.case.now.statement)))
    (flat_map in_label (map label_of xs) ++ in_statement (statement_of c.args.case.now.statement))) c.as_slice.ensures.value
    (case_is (map label_of c.in_ok-labels.labels.items) (map label_of c.as_slice.result.now) _ _ c.in_ok-labels.ensures c.in_ok-statement.ensures)

pub body-returns : goal.body-returns
body-returns t' c =
    boxed_statement c.boxed.result _ _ c.in_ok-statement.field-0 (statement_of c.args.inner.now) c.in_ok-statement.ensures c.boxed.ensures
