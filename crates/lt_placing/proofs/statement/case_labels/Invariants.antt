use Rattle.std.proofs.Common.{◌∷◌, drop}
use Rattle.std.specs.Prelude.{map}
use Rattle.std.specs.List.{flat_map}
use Rattle.lt_tree.specs.UnitView.{label_of}
use Rattle.lt_tree.specs.Nodes.{in_label}
use Rattle.lt_placing.proofs.Loops.{ComesFar}
use Rattle.lt_placing.proofs.statement.case_labels.Given as goal

abbrev pub invariant-list : goal.invariant-list
invariant-list l = ComesFar (λ y xs. label_of y ∷ xs) (λ new k xs. map label_of xs) (λ xs. flat_map in_label (map label_of xs)) l.initial.walk l.walk l.all.items l.list (drop l.each-index l.list)
