use Rattle.lt_tree.specs.Typing.Entities.{greatest_label_id}
use Rattle.lt_objectives.specs.Marked.{unit_with_marks}
use Rattle.lt_objective_marks.specs.Settings.{marks_of}
use Rattle.lt_objective_marks.proofs.Units.{same_functions}
use Rattle.lt_objective_marks.proofs.laws.marked_units_run_as_they_did.Goals as goal

pub returns : goal.returns
returns x = λ new unit program criterion id setting.
    let marked = unit_with_marks (marks_of unit program criterion id) unit in
    let it = x.objectives_are_added.ensures new unit program criterion id setting in
    let there = x.units_are_typed_again.ensures new setting.greatest setting.model unit marked it.0 program it.1 (same_functions (marks_of unit program criterion id) unit) setting.typed in
    let itself = x.programs_are_made_in_steps.ensures.0 new program in
    let made = x.programs_are_made_in_steps.ensures.1 new new itself.0 there.1 program program there.0 (λ n h. h) itself.1 there.3 in
    (greatest_label_id, there.0, made.0, there.2, made.1, x.programs_run_beside.ensures new made.0 setting.greatest greatest_label_id setting.model unit marked program there.0 setting.typed there.2 made.1)
