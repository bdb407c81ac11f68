use Rattle.std.proofs.Common.{◌≡◌, drop, ◌∷◌}
use Rattle.std.specs.Prelude.{map}
use Rattle.lt_tree.specs.UnitView.{external_of}
use Rattle.lt_tree.specs.Erasure.{erased_external}
use Rattle.lt_marks.proofs.Made.{before}
use Rattle.lt_marks.proofs.erasure.unit.plain_externals.Given as goal

abbrev pub invariant-list : goal.invariant-list
invariant-list l =
    before (λ x xs. external_of x ∷ xs) l.all.items (map erased_external (map external_of (drop l.external-index l.list))) ≡ map erased_external (map external_of l.list)
