use Rattle.std.proofs.Common.{◌≡◌, length}
use Rattle.lt_placing.specs.NewMarks.{new_marks}
use Rattle.lt_placing.proofs.Gathering.{Gathered}
use Rattle.lt_placing.proofs.place.marks_at_next.Given as goal

abbrev pub invariant-marks : goal.invariant-marks
invariant-marks l = record {
  gathered : Gathered l.here (new_marks l.initial.walk.marks.items) (new_marks l.walk.marks.items) l.initial.walk.next;
  same : l.walk.next ≡ l.initial.walk.next;
}

abbrev pub decreases-marks : goal.decreases-marks
decreases-marks l = length l.walk.marks.items
