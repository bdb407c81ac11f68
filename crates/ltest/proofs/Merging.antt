-- The stages of a replay, one after the other.
use Rattle.std.proofs.Common.{◌≡◌, Option, Some, None, refl}
use Rattle.std.specs.Prelude.{Result, Ok, Err}
use Rattle.lt_tree.specs.Typing.Programs.{Program}
use Rattle.lt_entry.specs.declared.test.Suite.{Suite}
use Rattle.lt_entry.specs.Specifications.{Specification}
use Rattle.lt_entry.specs.Suites.{IsSuite}
use Rattle.lt_cover.specs.Coverage.Table.{Table}
use Rattle.lt_replayed.specs.Replayed.{IsCoverage}
use Rattle.lt_answers.specs.Programs.{IsProgram}
use Rattle.lt_answers.specs.Entries.{Specifies, IsOld}
use Rattle.lt_answers.specs.Replays.{Sources, HasProgram, HasSpecification, HasSuite, HasCoverage, Refuses, mixed}
use Rattle.lt_answers.specs.declared.status.Refusal.{Refusal}
use Rattle.ltest.specs.declared.stops.TextStop.{TextStop}
use Rattle.ltest.specs.declared.stops.TextStop.TheVariants.{Refused, NoMemory}
use Rattle.ltest.specs.Stages.{GivesMerge, GivesCovered, HaveNoMerge}

-- the stages that are done
abbrev pub programmed : (from : Sources) (program : Program) → IsProgram from.model from.file program → HasProgram from
programmed from program is = record { program = program; is = is }

abbrev pub specified : (from : Sources) (before : HasProgram from) (it : Specification) → Specifies before.program from.entry it → HasSpecification from
specified from before it is = record { before = before; it = it; is = is }

abbrev pub suited : (from : Sources) (before : HasSpecification from) (suite : Suite) → IsSuite before.before.program before.it from.suite suite → HasSuite from
suited from before suite is = record { before = before; suite = suite; is = is }

abbrev pub covered_by : (from : Sources) (before : HasSuite from) (old : Option Table) (new : Table) → IsOld from.cover old → IsCoverage before.before.before.program before.before.it.spec before.suite from.steps new → HasCoverage from
covered_by from before old new is_old is_new = record { before = before; old = old; is_old = is_old; new = new; is_new = is_new }

-- Where there is no merge, the replay is refused so.
no_merge : (from : Sources) (before : HasCoverage from) (old : Option Table) (why : Refusal) → before.old ≡ old → HaveNoMerge before.new old why → Refuses from why
no_merge from before None why is mixes = elim mixes [ ]
no_merge from before (Some old) why is mixes = mixed before is mixes

-- The merge with the old coverage is that of the replay.
pub merged_so : (from : Sources) (before : HasCoverage from) (given : Result Table TextStop) → GivesMerge before.new before.old given → GivesCovered from given
merged_so from before (Ok table) is = record { coverage = before; merged = is }
merged_so from before (Err (Refused why)) is = no_merge from before before.old why refl is
merged_so from before (Err NoMemory) is = tt
