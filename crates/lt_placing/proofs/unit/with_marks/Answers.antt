use Rattle.std.proofs.Common.{ap, ◌∙◌}
use Rattle.std.specs.Prelude.{map}
use Rattle.lt_tree.specs.UnitView.{external_of}
use Rattle.lt_objectives.specs.Marked.{externals_with_marks}
use Rattle.lt_placing.specs.NewMarks.{new_marks}
use Rattle.lt_placing.proofs.unit.with_marks.Goals as goal

pub returns : goal.returns
returns c = (c.in_ok-externals.ensures _ 0 c.in_ok-walk.ensures).0 ∙ ap (λ xs. externals_with_marks (new_marks c.args.marks.items) 0 (map external_of xs)) c.as_slice.ensures.value
