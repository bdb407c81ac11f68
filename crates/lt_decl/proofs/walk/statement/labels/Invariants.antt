use Rattle.std.proofs.Common.{◌≡◌, drop, map}
use Rattle.lt_tree.specs.UnitView.{label_of}
use Rattle.lt_decl.specs.Walk.{walk_labels}
use Rattle.lt_decl.proofs.walk.statement.labels.Given as goal

abbrev pub invariant-labels : goal.invariant-labels
invariant-labels l = l.walker ≡ walk_labels (map label_of (drop l.at l.list)) l.initial.walker
