use Rattle.std.proofs.Common.{ap, ◌∙◌}
use Rattle.lt_tree.specs.UnitView.{unit_of}
use Rattle.lt_objectives.specs.Marked.{unit_with_marks}
use Rattle.lt_survey.proofs.marking.marked_with.Goals as goal

pub returns : goal.returns
returns c = λ id them number. record {
  marks = c.in_ok-unit.ensures ∙ ap (λ marks. unit_with_marks marks (unit_of c.args.unit.now)) number.marks;
  next = number.next;
}
