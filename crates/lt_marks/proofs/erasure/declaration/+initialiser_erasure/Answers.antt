use Rattle.std.proofs.Common.{ap, sym, ◌∙◌, refl}
use Rattle.lt_tree.specs.Tree as tree
use Rattle.lt_tree.specs.UnitView.{initialiser_of, initialisers_in}
use Rattle.lt_tree.specs.Erasure.{erased_initialisers}
use Rattle.lt_marks.proofs.ErasedUnit.{braces_erased}
use Rattle.lt_marks.proofs.Made.{ended, made}
use Rattle.lt_marks.proofs.erasure.declaration.+initialiser_erasure.Goals as goal

pub plain_initialisers-list-preserved : goal.plain_initialisers-list-preserved
plain_initialisers-list-preserved t c =
    made (λ x. tree.an_initialiser (initialiser_of x)) (λ xs. erased_initialisers (initialisers_in xs)) c.args.list.now c.list.part-index c.part-item.result c.list.all.items _ c.in_ok-plain_initialiser.field-0 _
    c.list-test.true c.part-item.is c.in_ok-push.ensures.items (λ rest. ap (λ x. tree.an_initialiser x (erased_initialisers (initialisers_in rest))) (sym c.in_ok-plain_initialiser.ensures)) c.list.invariant

pub plain_initialisers-returns : goal.plain_initialisers-returns
plain_initialisers-returns t c =
    ended (λ x. tree.an_initialiser (initialiser_of x)) (λ xs. erased_initialisers (initialisers_in xs)) initialisers_in c.args.list.now c.list.part-index c.list.all.items _ c.list-test.false refl (λ x xs. refl) c.list.invariant

pub plain_initialiser-returns-in_ok-plain_initialisers-in-List : goal.plain_initialiser-returns-in_ok-plain_initialisers-in-List
plain_initialiser-returns-in_ok-plain_initialisers-in-List t c =
    c.braces.ensures ∙ braces_erased c.args.initialiser.now c.in-List.parts _ c.in-List.is (c.in_ok-plain_initialisers-in-List.ensures ∙ ap (λ xs. erased_initialisers (initialisers_in xs)) c.as_slice.ensures.value)
