use Rattle.std.proofs.Common.{drop}
use Rattle.lt_emit.specs.Emission.{EmitsWithin}
use Rattle.lt_emit.specs.Marking.{MarksStand, marks_cost}
use Rattle.lt_emit.proofs.expression.marking.marks.Given as goal

abbrev pub invariant-marks : goal.invariant-marks
invariant-marks l =
    EmitsWithin l.fn.b l.b l.from (marks_cost (drop l.at l.all)) (MarksStand (drop l.at l.all) l.to l.from)
