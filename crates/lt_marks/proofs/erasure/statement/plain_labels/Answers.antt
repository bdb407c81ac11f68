use Rattle.std.proofs.Common.{ap, sym, refl, ◌∷◌}
use Rattle.std.specs.Prelude.{map}
use Rattle.lt_tree.specs.UnitView.{label_of}
use Rattle.lt_tree.specs.Erasure.{erased_label}
use Rattle.lt_marks.proofs.Made.{ended, made}
use Rattle.lt_marks.proofs.erasure.statement.plain_labels.Goals as goal

pub list-preserved : goal.list-preserved
list-preserved c =
    made (λ x xs. label_of x ∷ xs) (λ xs. map erased_label (map label_of xs)) c.args.list.now c.list.label-index c.label-item.result c.list.all.items _ c.in_ok-plain_label.field-0 _
    c.list-test.true c.label-item.is c.in_ok-push.ensures.items (λ rest. ap (λ x. x ∷ map erased_label (map label_of rest)) (sym c.in_ok-plain_label.ensures)) c.list.invariant

pub returns : goal.returns
returns c =
    ended (λ x xs. label_of x ∷ xs) (λ xs. map erased_label (map label_of xs)) (λ xs. map label_of xs) c.args.list.now c.list.label-index c.list.all.items _ c.list-test.false refl (λ x xs. refl) c.list.invariant
