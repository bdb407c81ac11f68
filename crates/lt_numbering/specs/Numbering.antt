-- New marks of objectives, with ids one after the other.
use Rattle.std.specs.Prelude.{◌≡◌, ◌<◌, ◌≤◌, ℕ, ◌+◌, List, ◌++◌, map}
use Rattle.lt_objectives.specs.Objectives.{Objective}
use Rattle.lt_objectives.specs.Marked.{numbered, next_id}
use Rattle.lt_placing.specs.NewMarks.{new_mark_of}
use Rattle.lt_numbering.specs.declared.new_marks.NewMarks.{NewMarks}
use Rattle.lt_numbering.specs.declared.stop.MarkStop.{MarkStop}
use Rattle.lt_numbering.specs.declared.stop.MarkStop.TheVariants as stop

-- the greatest id of a mark
abbrev pub most_id : ℕ
most_id = 2147483647

-- These are the marks of objectives, numbered from an id, none of which passes the greatest.
pub record Number (new : NewMarks) (id : ℕ) (them : List Objective) : Type 0 where
  pub marks : map new_mark_of new.marks.items ≡ numbered id them
  pub next : new.next ≡ next_id id them
  pub within : new.next ≤ most_id + 1

-- Behind the marks of some objectives stand those of others.
abbrev pub Adds : NewMarks → NewMarks → List Objective → Type 0
Adds old new them = (id : ℕ) (before : List Objective) → Number old id before → Number new id (before ++ them)

-- An id of these objectives would pass the greatest, behind those of others.
abbrev pub IdsAreOut : NewMarks → List Objective → MarkStop → Type 0
IdsAreOut old them stop.Ids = (id : ℕ) (before : List Objective) → Number old id before → most_id + 1 < next_id id (before ++ them)
IdsAreOut old them stop.NoMemory = Unit {0}
