use Rattle.std.proofs.Common.{◌≡◌, length}
use Rattle.lt_tree.specs.Tree as c
use Rattle.lt_tree.specs.Records.{marks_in}
use Rattle.lt_objectives.specs.Marked.{labels_before}
use Rattle.lt_placing.specs.Parts.{items_before}
use Rattle.lt_placing.proofs.unit.label_items.Given as goal

abbrev pub invariant-labels : goal.invariant-labels
invariant-labels l = (rest : c.Items) → items_before l.all.items (labels_before (marks_in l.left.items) rest) ≡ labels_before (marks_in l.initial.left.items) rest

abbrev pub decreases-labels : goal.decreases-labels
decreases-labels l = length l.left.items
