-- Texts whose runs are worked out from the definitions.
use Rattle.lt_meaning_runs.specs.Samples.{DivisionByZero, ReadAndWritten, NothingLeft, TicksOfALoop, WrittenBeforeDivided, WrittenTwice, WrittenBeforeACall, EndedObject, OnePastTheEnd, QuietPredicate}
use Rattle.lt_meaning_runs.specs.UsedValues.{UsedValuesAreWorkedOut}

abbrev pub RunsAreWorkedOut : Type 0
RunsAreWorkedOut = DivisionByZero × ReadAndWritten × NothingLeft × TicksOfALoop × WrittenBeforeDivided × WrittenTwice × WrittenBeforeACall × EndedObject × OnePastTheEnd × QuietPredicate × UsedValuesAreWorkedOut
