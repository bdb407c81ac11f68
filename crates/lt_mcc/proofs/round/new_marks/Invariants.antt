use Rattle.std.proofs.Common.{◌≤◌, ◌+◌}
use Rattle.lt_tree.specs.Tree as c
use Rattle.lt_tree.specs.Typing.Programs.{Program}
use Rattle.lt_numbering.specs.Numbering.{most_id}
use Rattle.lt_survey.specs.Rounds.{NumberBefore}
use Rattle.lt_survey.specs.Survey.{IsSurvey}
use Rattle.lt_mcc.specs.Combinations.{criterion_of}
use Rattle.lt_mcc.proofs.round.new_marks.Given as goal

abbrev pub invariant-nodes : goal.invariant-nodes
invariant-nodes l =
    ((unit : c.Unit) (program : Program) → IsSurvey unit program l.survey → NumberBefore l.new unit program (criterion_of l.combination) l.first l.k) × (l.new.next ≤ most_id + 1)
