use Rattle.std.proofs.Common.{ap, sym, refl, ◌∷◌}
use Rattle.std.specs.Prelude.{map}
use Rattle.lt_tree.specs.UnitView.{external_of}
use Rattle.lt_tree.specs.Erasure.{erased_external}
use Rattle.lt_marks.proofs.Made.{ended, made}
use Rattle.lt_marks.proofs.erasure.unit.plain_externals.Goals as goal

pub list-preserved : goal.list-preserved
list-preserved c =
    made (λ x xs. external_of x ∷ xs) (λ xs. map erased_external (map external_of xs)) c.args.list.now c.list.external-index c.external-item.result c.list.all.items _ c.in_ok-plain_external.field-0 _
    c.list-test.true c.external-item.is c.in_ok-push.ensures.items (λ rest. ap (λ x. x ∷ map erased_external (map external_of rest)) (sym c.in_ok-plain_external.ensures)) c.list.invariant

pub returns : goal.returns
returns c =
    ended (λ x xs. external_of x ∷ xs) (λ xs. map erased_external (map external_of xs)) (λ xs. map external_of xs) c.args.list.now c.list.external-index c.list.all.items _ c.list-test.false refl (λ x xs. refl) c.list.invariant
