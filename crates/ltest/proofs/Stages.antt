-- Where a stage stops, the replay is refused so.
use Rattle.std.specs.Prelude.{Err}
use Rattle.lt_answers.specs.Programs.{HasNoProgram, SpellsNone, spells_none}
use Rattle.lt_answers.specs.Entries.{SpecifiesNone, IsNoSuite, IsNoOld}
use Rattle.lt_answers.specs.Replays.{Sources, HasProgram, HasSpecification, HasSuite, Refuses, no_program, no_specification, no_suite, no_old}
use Rattle.lt_answers.specs.declared.status.Refusal.{Refusal}
use Rattle.ltest.specs.declared.stops.TextStop.{TextStop}
use Rattle.ltest.specs.declared.stops.TextStop.TheVariants.{Refused, NoMemory}
use Rattle.ltest.specs.Stages.{StopsBy}
use Rattle.ltest.specs.Texts.{IsReplayAnswer}

-- what stops by one refusal stops by each that this gives
pub weaker : {Is Are : Refusal → Type 0} (stop : TextStop) → ((why : Refusal) → Is why → Are why) → StopsBy Is stop → StopsBy Are stop
weaker (Refused why) gives is = gives why is
weaker NoMemory gives is = tt

-- What stops a replay is its answer.
pub stopped : (from : Sources) (stop : TextStop) → StopsBy (Refuses from) stop → IsReplayAnswer from (Err stop)
stopped from (Refused why) is = is
stopped from NoMemory is = tt

-- a text that spells no unit
pub at_unit : (from : Sources) (stop : TextStop) → StopsBy (SpellsNone from.file) stop → StopsBy (Refuses from) stop
at_unit from stop is = weaker stop (λ why none. no_program (spells_none none)) is

-- a text that has no program
pub at_program : (from : Sources) (stop : TextStop) → StopsBy (HasNoProgram from.model from.file) stop → StopsBy (Refuses from) stop
at_program from stop is = weaker stop (λ why none. no_program none) is

-- no specification
pub at_specification : (from : Sources) (before : HasProgram from) (stop : TextStop) → StopsBy (SpecifiesNone before.program from.entry) stop → StopsBy (Refuses from) stop
at_specification from before stop is = weaker stop (λ why none. no_specification before none) is

-- no suite
pub at_suite : (from : Sources) (before : HasSpecification from) (stop : TextStop) → StopsBy (IsNoSuite before.before.program before.it from.suite) stop → StopsBy (Refuses from) stop
at_suite from before stop is = weaker stop (λ why none. no_suite before none) is

-- no old coverage, where a file is given
pub at_old : (from : Sources) (before : HasSuite from) (stop : TextStop) → StopsBy (IsNoOld from.cover) stop → StopsBy (Refuses from) stop
at_old from before stop is = weaker stop (λ why none. no_old before none) is
