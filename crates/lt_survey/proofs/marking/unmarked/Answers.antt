use Rattle.std.proofs.Common.{refl, ap, ◌∙◌, map}
use Rattle.lt_tree.specs.UnitView.{unit_of}
use Rattle.lt_objectives.specs.Marked.{unit_with_marks}
use Rattle.lt_placing.specs.NewMarks.{new_mark_of}
use Rattle.lt_survey.proofs.NoMarks.{no_marks_added}
use Rattle.lt_survey.proofs.marking.unmarked.Goals as goal

pub returns : goal.returns
returns c =
    let unit = unit_of c.args.unit.now in
    (c.in_ok-unit.ensures ∙ ap (λ marks. unit_with_marks (map new_mark_of marks) unit) c.new.ensures.items ∙ no_marks_added unit, refl)
