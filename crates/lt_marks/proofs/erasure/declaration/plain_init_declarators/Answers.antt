use Rattle.std.proofs.Common.{ap, sym, refl, ◌∷◌}
use Rattle.std.specs.Prelude.{map}
use Rattle.lt_tree.specs.UnitView.{init_declarator_of}
use Rattle.lt_tree.specs.Erasure.{erased_init_declarator}
use Rattle.lt_marks.proofs.Made.{ended, made}
use Rattle.lt_marks.proofs.erasure.declaration.plain_init_declarators.Goals as goal

pub list-preserved : goal.list-preserved
list-preserved c =
    made (λ x xs. init_declarator_of x ∷ xs) (λ xs. map erased_init_declarator (map init_declarator_of xs)) c.args.list.now c.list.d-index c.d-item.result c.list.all.items _ c.in_ok-plain_init_declarator.field-0 _
    c.list-test.true c.d-item.is c.in_ok-push.ensures.items (λ rest. ap (λ x. x ∷ map erased_init_declarator (map init_declarator_of rest)) (sym c.in_ok-plain_init_declarator.ensures)) c.list.invariant

pub returns : goal.returns
returns c =
    ended (λ x xs. init_declarator_of x ∷ xs) (λ xs. map erased_init_declarator (map init_declarator_of xs)) (λ xs. map init_declarator_of xs) c.args.list.now c.list.d-index c.list.all.items _ c.list-test.false refl (λ x xs. refl) c.list.invariant
