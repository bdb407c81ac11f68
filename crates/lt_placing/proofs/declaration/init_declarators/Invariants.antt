use Rattle.std.proofs.Common.{◌∷◌, drop}
use Rattle.std.specs.Prelude.{map}
use Rattle.std.specs.List.{flat_map}
use Rattle.lt_tree.specs.UnitView.{init_declarator_of}
use Rattle.lt_tree.specs.Nodes.{in_init_declarator}
use Rattle.lt_objectives.specs.Marked.{declarators_with_marks}
use Rattle.lt_placing.proofs.Loops.{ComesFar}
use Rattle.lt_placing.proofs.declaration.init_declarators.Given as goal

abbrev pub invariant-list : goal.invariant-list
invariant-list l = ComesFar (λ y xs. init_declarator_of y ∷ xs) (λ new k xs. declarators_with_marks new k (map init_declarator_of xs)) (λ xs. flat_map in_init_declarator (map init_declarator_of xs)) l.initial.walk l.walk l.all.items l.list (drop l.each-index l.list)
