use Rattle.std.proofs.Common.{refl, ◌∷◌, length-append}
use Rattle.std.specs.Prelude.{map}
use Rattle.std.specs.List.{flat_map}
use Rattle.lt_tree.specs.UnitView.{init_declarator_of}
use Rattle.lt_tree.specs.Nodes.{in_init_declarator}
use Rattle.lt_objectives.specs.Marked.{declarators_with_marks}
use Rattle.lt_placing.specs.Parts.{init_declarator_with_marks}
use Rattle.lt_placing.proofs.Loops.{begun, further, finished, turn}
use Rattle.lt_placing.proofs.declaration.init_declarators.Goals as goal

pub list-init : goal.list-init
list-init c = begun (λ y xs. init_declarator_of y ∷ xs) (λ new k xs. declarators_with_marks new k (map init_declarator_of xs)) (λ xs. flat_map in_init_declarator (map init_declarator_of xs)) _ _ _ c.new-all.ensures.items

pub list-preserved : goal.list-preserved
list-preserved c =
    further (λ y xs. init_declarator_of y ∷ xs) (λ new k xs. declarators_with_marks new k (map init_declarator_of xs)) (λ xs. flat_map in_init_declarator (map init_declarator_of xs)) _ _ _ c.args.list.now c.list.each-index c.each-item.result c.list.all.items _ c.in_ok-init_declarator.field-0
    (in_init_declarator (init_declarator_of c.each-item.result)) c.list-test.true c.each-item.is c.in_ok-push.ensures.items (λ rest. length-append _ _)
    (turn (λ new k xs. declarators_with_marks new k (map init_declarator_of xs)) (λ y xs. y ∷ xs) _ _ _ (λ new k. init_declarator_with_marks new k (init_declarator_of c.each-item.result)) _ c.in_ok-init_declarator.ensures) c.list.invariant

pub returns : goal.returns
returns c =
    finished (λ y xs. init_declarator_of y ∷ xs) (λ new k xs. declarators_with_marks new k (map init_declarator_of xs)) (λ xs. flat_map in_init_declarator (map init_declarator_of xs)) _ _ (map init_declarator_of) c.args.list.now c.list.each-index c.list.all.items c.list-test.false (λ new j. refl) (λ y ys. refl) refl c.list.invariant
