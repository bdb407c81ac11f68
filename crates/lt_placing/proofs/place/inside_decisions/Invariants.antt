use Rattle.std.proofs.Common.{◌≡◌, vec_len}
use Rattle.lt_tree.specs.View.{expression_of}
use Rattle.lt_placing.specs.NewMarks.{new_marks}
use Rattle.lt_placing.specs.Walks.{decided_by}
use Rattle.lt_placing.proofs.place.inside_decisions.Given as goal

abbrev pub invariant-decisions : goal.invariant-decisions
invariant-decisions l = decided_by (new_marks l.left.items) (expression_of l.all) ≡ decided_by (new_marks l.initial.left.items) (expression_of l.initial.all)

abbrev pub decreases-decisions : goal.decreases-decisions
decreases-decisions l = vec_len l.left
