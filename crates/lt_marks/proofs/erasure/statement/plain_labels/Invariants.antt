use Rattle.std.proofs.Common.{◌≡◌, drop, ◌∷◌}
use Rattle.std.specs.Prelude.{map}
use Rattle.lt_tree.specs.UnitView.{label_of}
use Rattle.lt_tree.specs.Erasure.{erased_label}
use Rattle.lt_marks.proofs.Made.{before}
use Rattle.lt_marks.proofs.erasure.statement.plain_labels.Given as goal

abbrev pub invariant-list : goal.invariant-list
invariant-list l =
    before (λ x xs. label_of x ∷ xs) l.all.items (map erased_label (map label_of (drop l.label-index l.list))) ≡ map erased_label (map label_of l.list)
