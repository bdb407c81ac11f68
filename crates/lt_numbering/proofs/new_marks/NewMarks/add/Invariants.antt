use Rattle.std.proofs.Common.{◌≡◌, ◌≤◌, ◌+◌, map, length, List, ◌++◌}
use Rattle.lt_tree.specs.Tree as t
use Rattle.lt_tree.specs.View.{expression_of}
use Rattle.lt_objectives.specs.Objectives.{all_at}
use Rattle.lt_placing.specs.NewMarks.{form_of}
use Rattle.lt_numbering.specs.Numbering.{Adds, most_id}
use Rattle.lt_numbering.proofs.new_marks.NewMarks.add.Given as goal

abbrev pub invariant-left : goal.invariant-left
invariant-left l =
    (done : List t.Expression) × (map expression_of l.fn.predicates.items ≡ done ++ map expression_of l.left.items)
    × Adds l.fn.self l.self (all_at l.place (form_of l.form) l.criterion done) × (l.self.next ≤ most_id + 1)

abbrev pub decreases-left : goal.decreases-left
decreases-left l = length l.left.items
