use Rattle.std.proofs.Common.{refl, sym, ap, ◌∙◌, length-append}
use Rattle.lt_tree.specs.Tree as tree
use Rattle.lt_tree.specs.View.{expression_of}
use Rattle.lt_tree.specs.UnitView.{initialiser_of, initialisers_in}
use Rattle.lt_tree.specs.Nodes.{in_initialiser, in_initialisers}
use Rattle.lt_objectives.specs.Marked.{with_marks, initialiser_with_marks, initialisers_with_marks}
use Rattle.lt_placing.proofs.Loops.{begun, further, finished, turn}
use Rattle.lt_placing.proofs.Sequences.{one_part}
use Rattle.lt_tree.proofs.UnitRows.{braces_is}
use Rattle.lt_placing.proofs.declaration.+initialisers.Goals as goal

pub initialisers-list-init : goal.initialisers-list-init
initialisers-list-init t' c = begun (λ y. tree.an_initialiser (initialiser_of y)) (λ new k xs. initialisers_with_marks new k (initialisers_in xs)) (λ xs. in_initialisers (initialisers_in xs)) _ _ _ c.new-all.ensures.items

pub initialisers-list-preserved : goal.initialisers-list-preserved
initialisers-list-preserved t' c =
    further (λ y. tree.an_initialiser (initialiser_of y)) (λ new k xs. initialisers_with_marks new k (initialisers_in xs)) (λ xs. in_initialisers (initialisers_in xs)) _ _ _ c.args.list.now c.list.each-index c.each-item.result c.list.all.items _ c.in_ok-initialiser.field-0
    (in_initialiser (initialiser_of c.each-item.result)) c.list-test.true c.each-item.is c.in_ok-push.ensures.items (λ rest. length-append _ _)
    (turn (λ new k xs. initialisers_with_marks new k (initialisers_in xs)) tree.an_initialiser _ _ _ (λ new k. initialiser_with_marks new k (initialiser_of c.each-item.result)) _ c.in_ok-initialiser.ensures) c.list.invariant

pub initialisers-returns : goal.initialisers-returns
initialisers-returns t' c =
    finished (λ y. tree.an_initialiser (initialiser_of y)) (λ new k xs. initialisers_with_marks new k (initialisers_in xs)) (λ xs. in_initialisers (initialisers_in xs)) _ _ initialisers_in c.args.list.now c.list.each-index c.list.all.items c.list-test.false (λ new j. refl) (λ y ys. refl) refl c.list.invariant

pub initialiser-returns-in_ok-expression-in-Expression : goal.initialiser-returns-in_ok-expression-in-Expression
initialiser-returns-in_ok-expression-in-Expression t' c =
    one_part initialiser_with_marks in_initialiser tree.Value _ _ (expression_of c.in-Expression.e) (expression_of c.in_ok-expression-in-Expression.field-0)
    (λ new k. with_marks new k (expression_of c.in-Expression.e)) _ (ap initialiser_of c.in-Expression.is) c.value.ensures (λ new k. refl) refl
    c.step.ensures c.in_ok-expression-in-Expression.ensures

pub initialiser-returns-in_ok-parts-in-List : goal.initialiser-returns-in_ok-parts-in-List
initialiser-returns-in_ok-parts-in-List t' c =
    one_part initialiser_with_marks in_initialiser tree.Braces _ _ (initialisers_in c.as_slice.result.now) (initialisers_in c.in_ok-parts-in-List.parts.items)
    (λ new k. initialisers_with_marks new k (initialisers_in c.as_slice.result.now)) _
    (ap initialiser_of c.in-List.is ∙ braces_is c.in-List.parts ∙ ap (λ xs. tree.Braces (initialisers_in xs)) (sym c.as_slice.ensures.value)) c.braces.ensures (λ new k. refl) refl
    c.step.ensures c.in_ok-parts-in-List.ensures
