-- A unit runs with the marks of criteria, one after the other, as it does without them.
use Rattle.std.proofs.Common.{ℕ, List, Bool}
use Rattle.lt_model.specs.declared.scalar.DataModel.{DataModel}
use Rattle.lt_tree.specs.Tree as c
use Rattle.lt_tree.specs.Typing.Programs.{Program}
use Rattle.lt_objectives.specs.Marked.{marked_by}
use Rattle.lt_mark_typing.specs.Laws.{UnitsAreTypedAgain}
use Rattle.lt_mark_typing.specs.MarkedPrograms.{IsMadeBeside}
use Rattle.lt_mark_typing.specs.MarkedRuns.{is_from}
use Rattle.lt_marked_runs.specs.Laws.{ProgramsAreMadeInSteps, ProgramsRunBeside}
use Rattle.lt_objective_typing.specs.Laws.{LabelsOfObjectivesAreNew, DecisionsGivePredicates, MutantsGivePredicates, DomainsGivePredicates}
use Rattle.lt_objective_marks.specs.Units.{ObjectivesAreAdded}
use Rattle.lt_objective_marks.specs.Rounds.{FirstProgramsKnowAsMuch, RoundsRunAsTheyDid}
use Rattle.lt_objective_marks.proofs.InRounds.{StaysSo, in_rounds}

-- a program is made of the first one, with marks of new ids
abbrev IsMade : Program → (least greatest : ℕ) → c.Unit → Program → Type 0
IsMade first least greatest unit own = (further : List Bool) × IsMadeBeside (is_from least) further first own

stays_made : ProgramsAreMadeInSteps → (model : DataModel) (first : Program) (least : ℕ) → StaysSo model least (IsMade first least)
stays_made in_steps model first least = λ own greatest unit marked after program other further are_new is adds same beside made.
    in_steps.1 (is_from least) own made.0 further first program other are_new made.1 beside

pub rounds_run : FirstProgramsKnowAsMuch → LabelsOfObjectivesAreNew → DecisionsGivePredicates → MutantsGivePredicates → DomainsGivePredicates → ObjectivesAreAdded → UnitsAreTypedAgain
    → ProgramsAreMadeInSteps → ProgramsRunBeside → RoundsRunAsTheyDid
rounds_run as_much labels_are_new decisions_are mutants_are domains_are added again in_steps beside = λ greatest model criteria unit program id is one old last.
    let last_one = in_rounds labels_are_new decisions_are mutants_are domains_are added again as_much model program id (IsMade program id) (stays_made in_steps model program id) greatest criteria unit is one old last
    (in_steps.0 (is_from id) program) in (
      last_one.greatest,
      last_one.program,
      last_one.is_so.0,
      last_one.typed,
      last_one.is_so.1,
      beside (is_from id) last_one.is_so.0 greatest last_one.greatest model unit (marked_by criteria unit program id) program last_one.program is last_one.typed last_one.is_so.1,
    )
