use Rattle.std.proofs.Common.{refl, ◌∷◌, length-append}
use Rattle.std.specs.Prelude.{map}
use Rattle.std.specs.List.{flat_map}
use Rattle.lt_tree.specs.UnitView.{label_of}
use Rattle.lt_tree.specs.Nodes.{in_label}
use Rattle.lt_placing.proofs.Loops.{begun, further, finished, turn}
use Rattle.lt_placing.proofs.statement.case_labels.Goals as goal

pub list-init : goal.list-init
list-init c = begun (λ y xs. label_of y ∷ xs) (λ new k xs. map label_of xs) (λ xs. flat_map in_label (map label_of xs)) _ _ _ c.new-all.ensures.items

pub list-preserved : goal.list-preserved
list-preserved c =
    further (λ y xs. label_of y ∷ xs) (λ new k xs. map label_of xs) (λ xs. flat_map in_label (map label_of xs)) _ _ _ c.args.list.now c.list.each-index c.each-item.result c.list.all.items _ c.in_ok-case_label.field-0
    (in_label (label_of c.each-item.result)) c.list-test.true c.each-item.is c.in_ok-push.ensures.items (λ rest. length-append _ _)
    (turn (λ new k xs. map label_of xs) (λ y xs. y ∷ xs) _ _ _ (λ new k. label_of c.each-item.result) _ c.in_ok-case_label.ensures) c.list.invariant

pub returns : goal.returns
returns c =
    finished (λ y xs. label_of y ∷ xs) (λ new k xs. map label_of xs) (λ xs. flat_map in_label (map label_of xs)) _ _ (map label_of) c.args.list.now c.list.each-index c.list.all.items c.list-test.false (λ new j. refl) (λ y ys. refl) refl c.list.invariant
