-- What the parts of a command promise of their definitions, by which at most one answer is due.
use Rattle.lt_outside.specs.Shelf.{Files}
use Rattle.lt_token.specs.Laws.{AtMostOneReading, AtMostOneAnswer}
use Rattle.lt_tree.specs.Units.{UnitsAreOne}
use Rattle.lt_entry.specs.Laws.{TextsSayOneSpecification, TextsSayOneSuite}
use Rattle.lt_cover_laws.specs.Laws.{TextsStandForOneTable, MergesAreOne}
use Rattle.lt_replayed.specs.Laws.{SuitesHaveOneTable}
use Rattle.lt_command.specs.Plan.{Plan}
use Rattle.lt_answers.specs.Answers.{IsDue, IsSame}
use Rattle.lt_answers.specs.declared.status.Status.{Status}

pub record Laws : Type 0 where
  pub readings : AtMostOneReading
  pub answers : AtMostOneAnswer
  pub units : UnitsAreOne
  pub specifications : TextsSayOneSpecification
  pub suites : TextsSayOneSuite
  pub coverages : TextsStandForOneTable
  pub merges : MergesAreOne
  pub tables : SuitesHaveOneTable

-- At most one answer is due.
abbrev pub OneAnswerIsDue : Type 0
OneAnswerIsDue = Laws → (files : Files) (plan : Plan) (s t : Status) → IsDue files plan s → IsDue files plan t → IsSame s t
