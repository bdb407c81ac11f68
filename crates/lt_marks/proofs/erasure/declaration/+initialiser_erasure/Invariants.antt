use Rattle.std.proofs.Common.{◌≡◌, drop}
use Rattle.lt_tree.specs.Tree as tree
use Rattle.lt_tree.specs.UnitView.{initialiser_of, initialisers_in}
use Rattle.lt_tree.specs.Erasure.{erased_initialisers}
use Rattle.lt_marks.proofs.Made.{before}
use Rattle.lt_marks.proofs.erasure.declaration.+initialiser_erasure.Given as goal

abbrev pub invariant-plain_initialisers-list : goal.invariant-plain_initialisers-list
invariant-plain_initialisers-list l =
    before (λ x. tree.an_initialiser (initialiser_of x)) l.all.items (erased_initialisers (initialisers_in (drop l.part-index l.list))) ≡ erased_initialisers (initialisers_in l.list)
