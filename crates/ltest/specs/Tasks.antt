-- What a replay is to do.
use Rattle.std.specs.Prelude.{◌<◌, length, Result, Ok, Err}
use Rattle.lt_tree.specs.Typing.ProgramView.{program_of}
use Rattle.lt_tree.specs.declared.typed.program.Program.{Program}
use Rattle.lt_entry.specs.Inputs.{IsBounded}
use Rattle.lt_replayed.specs.Replayed.{NamesDiffer}
use Rattle.lt_answers.specs.Entries.{IsOld}
use Rattle.lt_answers.specs.Replays.{Sources, Refuses}
use Rattle.ltest.specs.Stages.{StopsBy, IsSpecified, SaysSuite}
use Rattle.ltest.specs.declared.stops.TextStop.{TextStop}
use Rattle.ltest.specs.declared.tasks.Task.{Task}

-- What the files of a command say of a program: the specification of an entry, a suite on it, and the old coverage.
pub record IsTask (program : Program) (from : Sources) (task : Task) : Type 0 where
  pub specified : IsSpecified program from.entry task.specification
  pub said : SaysSuite program task.specification from.suite task.suite
  pub old : IsOld from.cover task.old
  -- the entry is a function with a body, the specification keeps its bounds, and each test has a name of its own
  pub entry : task.specification.spec.entry < length (program_of program).functions
  pub bounded : IsBounded task.specification.spec
  pub names : NamesDiffer task.suite.tests

-- what the files say, or the first reason why a replay is refused
abbrev pub GivesTask : Program → Sources → Result Task TextStop → Type 0
GivesTask program from (Ok task) = IsTask program from task
GivesTask program from (Err stop) = StopsBy (Refuses from) stop
