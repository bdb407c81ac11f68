use Rattle.std.proofs.Common.{◌∷◌, drop}
use Rattle.std.specs.Prelude.{map}
use Rattle.std.specs.List.{flat_map}
use Rattle.lt_tree.specs.UnitView.{external_of}
use Rattle.lt_tree.specs.Nodes.{in_external}
use Rattle.lt_objectives.specs.Marked.{externals_with_marks}
use Rattle.lt_placing.proofs.Loops.{ComesFar}
use Rattle.lt_placing.proofs.unit.externals.Given as goal

abbrev pub invariant-list : goal.invariant-list
invariant-list l = ComesFar (λ y xs. external_of y ∷ xs) (λ new k xs. externals_with_marks new k (map external_of xs)) (λ xs. flat_map in_external (map external_of xs)) l.initial.walk l.walk l.all.items l.list (drop l.each-index l.list)
