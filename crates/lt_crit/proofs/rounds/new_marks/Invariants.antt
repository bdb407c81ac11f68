use Rattle.std.proofs.Common.{◌≤◌, ◌+◌}
use Rattle.lt_tree.specs.Tree as c
use Rattle.lt_tree.specs.Typing.ProgramView.{program_of}
use Rattle.lt_numbering.specs.Numbering.{most_id}
use Rattle.lt_survey.specs.Survey.{IsSurvey}
use Rattle.lt_survey.specs.Rounds.{NumberBefore}
use Rattle.lt_crit.proofs.rounds.new_marks.Given as goal

abbrev pub invariant-sites : goal.invariant-sites
invariant-sites l =
    (l.new.next ≤ most_id + 1)
    × ((unit : c.Unit) → IsSurvey unit (program_of l.program) l.survey → NumberBefore l.new unit (program_of l.program) l.criterion l.first l.number)
