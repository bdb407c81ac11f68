use Rattle.std.proofs.Common.{drop, map}
use Rattle.lt_tree.specs.UnitView.{unit_of}
use Rattle.lt_tree.specs.Typing.ProgramView.{program_of}
use Rattle.lt_survey.specs.Marking.{chosen}
use Rattle.lt_survey.specs.Rounds.{Leads}
use Rattle.lt_mut.specs.declared.mutation.TheConstants.{MUTATIONS}
use Rattle.lt_mut.specs.Mutations.{criteria, criterion_of}
use Rattle.lt_mut.proofs.annotation.annotate_further.Given as goal

abbrev pub invariant-mutations : goal.invariant-mutations
invariant-mutations l = Leads (chosen (map criterion_of (drop l.mutation-index MUTATIONS)) l.which.0) (chosen criteria l.which.0) (unit_of l.initial.made.unit) (program_of l.program) l.initial.made.next l.made
