-- How rows that are kept are known by lines.
use Rattle.std.specs.Prelude.{◌≡◌, ◌+◌, ℕ, false, List, [], ◌∷◌, ◌++◌, map, length, slice_get, Option, Some, None}
use Rattle.lt_lin.specs.declared.row.Row.{Row}
use Rattle.lt_lin.specs.declared.line.Line.{Line}
use Rattle.lt_lin.specs.Lines.{Lines, last, before_lines}
use Rattle.lt_lin.specs.Refutation.{RefutesAfter, Refutes}
use Rattle.lt_elim.specs.declared.event.Event as code
use Rattle.lt_elim.specs.declared.event.Event.TheVariants as event
use Rattle.lt_elim.specs.declared.log.Log.{Log}
use Rattle.lt_elim.specs.declared.numbered.Numbered.{Numbered}

abbrev pub bare : List Numbered → List Row
bare ns = map (λ n. n.row) ns

abbrev pub IsKnownAs : List Row → ℕ → Row → Type 0
IsKnownAs known number r = slice_get known number ≡ Some r

-- each row is the known row of its number
abbrev pub AreKnown : List Row → List Numbered → Type 0
AreKnown known [] = Unit {0}
AreKnown known (n ∷ ns) = IsKnownAs known n.number n.row × AreKnown known ns

-- the lines, and others after them
abbrev pub lines_then : List Line → Lines → Lines
lines_then [] rest = rest
lines_then (l ∷ ls) rest = before_lines l (lines_then ls rest)

-- With the log's lines the rows are known: lines that refute those refute, after the log's, the rows of the system.
pub record Derives (rows : List Row) (log : Log) (known : List Row) : Type 0 where
  pub leads : (rest : Lines) → RefutesAfter false known rest → Refutes rows (lines_then log.lines.items rest)
  pub count : length known ≡ log.count

-- the log with one more line, and the number of the row that it gives
pub record IsPushed (old : Log) (line : Line) (new : Log) (number : ℕ) : Type 0 where
  pub lines : new.lines.items ≡ old.lines.items ++ line ∷ []
  pub number_is : number ≡ old.count
  pub count : new.count ≡ old.count + 1

-- one more row may be known, and the row r is
pub record Gained (rows known : List Row) (r : Row) (log : Log) (number : ℕ) : Type 0 where
  pub more : List Row
  pub derives : Derives rows log (known ++ more)
  pub is_known : IsKnownAs (known ++ more) number r

-- kept rows are known
pub record Traces (rows known : List Row) (log : Log) (kept : List Numbered) : Type 0 where
  pub derives : Derives rows log known
  pub are_known : AreKnown known kept

-- Kept rows are known, perhaps with more lines; a refutation leaves lines that refute the rows.
abbrev pub Traced : List Row → List Row → Option code.Event → Log → List Numbered → Type 0
Traced rows known None log kept = (more : List Row) × Traces rows (known ++ more) log kept
Traced rows known (Some (event.Coeff v)) log kept = Unit {0}
Traced rows known (Some event.Refuted) log kept = Refutes rows (lines_then log.lines.items last)
Traced rows known (Some (event.Rows v)) log kept = Unit {0}

-- Where kept rows and those given are known, they are after what was done, unless an event came; a refutation leaves its lines.
abbrev pub TracedOn : Log → List Numbered → List Numbered → Option code.Event → Log → List Numbered → Type 0
TracedOn old kept given e new next =
    (rows known : List Row) → Traces rows known old kept → AreKnown known given → Traced rows known e new next

-- a refutation leaves lines that refute the rows
abbrev pub Refuting : List Row → Option code.Event → Log → Type 0
Refuting rows None log = Unit {0}
Refuting rows (Some (event.Coeff v)) log = Unit {0}
Refuting rows (Some event.Refuted) log = Refutes rows (lines_then log.lines.items last)
Refuting rows (Some (event.Rows v)) log = Unit {0}
