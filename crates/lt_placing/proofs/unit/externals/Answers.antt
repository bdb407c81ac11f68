use Rattle.std.proofs.Common.{refl, ◌∷◌, length-append}
use Rattle.std.specs.Prelude.{map}
use Rattle.std.specs.List.{flat_map}
use Rattle.lt_tree.specs.UnitView.{external_of}
use Rattle.lt_tree.specs.Nodes.{in_external}
use Rattle.lt_objectives.specs.Marked.{external_with_marks, externals_with_marks}
use Rattle.lt_placing.proofs.Loops.{begun, further, finished, turn}
use Rattle.lt_placing.proofs.unit.externals.Goals as goal

pub list-init : goal.list-init
list-init c = begun (λ y xs. external_of y ∷ xs) (λ new k xs. externals_with_marks new k (map external_of xs)) (λ xs. flat_map in_external (map external_of xs)) _ _ _ c.new-all.ensures.items

pub list-preserved : goal.list-preserved
list-preserved c =
    further (λ y xs. external_of y ∷ xs) (λ new k xs. externals_with_marks new k (map external_of xs)) (λ xs. flat_map in_external (map external_of xs)) _ _ _ c.args.list.now c.list.each-index c.each-item.result c.list.all.items _ c.in_ok-external.field-0
    (in_external (external_of c.each-item.result)) c.list-test.true c.each-item.is c.in_ok-push.ensures.items (λ rest. length-append _ _)
    (turn (λ new k xs. externals_with_marks new k (map external_of xs)) (λ y xs. y ∷ xs) _ _ _ (λ new k. external_with_marks new k (external_of c.each-item.result)) _ c.in_ok-external.ensures) c.list.invariant

pub returns : goal.returns
returns c =
    finished (λ y xs. external_of y ∷ xs) (λ new k xs. externals_with_marks new k (map external_of xs)) (λ xs. flat_map in_external (map external_of xs)) _ _ (map external_of) c.args.list.now c.list.each-index c.list.all.items c.list-test.false (λ new j. refl) (λ y ys. refl) refl c.list.invariant
