-- What reading a coverage file answers.
use Rattle.std.specs.Prelude.{◌≡◌, ℕ, List, Result, Ok, Err}
use Rattle.lt_cover.specs.declared.stops.CoverStop.{CoverStop}
use Rattle.lt_cover.specs.declared.stops.CoverStop.TheVariants as stop
use Rattle.lt_cover.specs.Coverage.Table.{Table}
use Rattle.lt_cover.specs.Coverage.Text.{IsCoverText, BreaksAt, StandFor, IsFirstBroken, row_number}

-- The answer is the table that the text stands for, or the number of its first row that breaks the grammar, or there was no memory.
abbrev pub IsRead : List ℕ → Result Table CoverStop → Type 0
IsRead text (Ok t) = IsCoverText text t
IsRead text (Err (stop.Row number)) = BreaksAt text number
IsRead text (Err stop.NoMemory) = Unit {0}

-- The answer by the rows: the table that they stand for, or the number of the first that breaks the grammar.
abbrev pub IsReadFrom : List (List (List ℕ)) → Result Table CoverStop → Type 0
IsReadFrom rows (Ok t) = StandFor rows t
IsReadFrom rows (Err (stop.Row number)) = (n : ℕ) × IsFirstBroken rows n × (number ≡ row_number n)
IsReadFrom rows (Err stop.NoMemory) = Unit {0}
