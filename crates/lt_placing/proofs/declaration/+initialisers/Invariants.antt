use Rattle.std.proofs.Common.{drop}
use Rattle.lt_tree.specs.Tree as tree
use Rattle.lt_tree.specs.UnitView.{initialiser_of, initialisers_in}
use Rattle.lt_tree.specs.Nodes.{in_initialisers}
use Rattle.lt_objectives.specs.Marked.{initialisers_with_marks}
use Rattle.lt_placing.proofs.Loops.{ComesFar}
use Rattle.lt_placing.proofs.declaration.+initialisers.Given as goal

abbrev pub invariant-initialisers-list : goal.invariant-initialisers-list
invariant-initialisers-list l = ComesFar (λ y. tree.an_initialiser (initialiser_of y)) (λ new k xs. initialisers_with_marks new k (initialisers_in xs)) (λ xs. in_initialisers (initialisers_in xs)) l.initial.walk l.walk l.all.items l.list (drop l.each-index l.list)
