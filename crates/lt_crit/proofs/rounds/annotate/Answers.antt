use Rattle.lt_tree.specs.Typing.ProgramView.{program_of}
use Rattle.lt_survey.proofs.Rounds.{copied_marked, copied_ids}
use Rattle.lt_survey.specs.Marking.{chosen}
use Rattle.lt_crit.specs.Criteria.{criteria}
use Rattle.lt_crit.proofs.rounds.annotate.Goals as goal

pub annotate_further-requires : goal.annotate_further-requires
annotate_further-requires c = rw c.in_ok-copy.ensures.1 c.requires

pub returns-clause-marked : goal.returns-clause-marked
returns-clause-marked c = copied_marked (chosen criteria c.args.which.0) (program_of c.args.program.now) c.in_ok-copy.copy c.in_ok-copy.ensures.0 c.in_ok-copy.ensures.1 c.annotate_further.result c.annotate_further.ensures.marked

pub returns-clause-ids : goal.returns-clause-ids
returns-clause-ids c = copied_ids (chosen criteria c.args.which.0) (program_of c.args.program.now) c.in_ok-copy.copy c.in_ok-copy.ensures.0 c.in_ok-copy.ensures.1 c.annotate_further.result c.annotate_further.ensures.ids
