-- The coverage file: rows of five fields, as CSV. The first row tells the version, then come the tests, the labels and the
-- hyperlabels of the table.
use Rattle.std.specs.Prelude.{◌≡◌, ◌<◌, ◌≤◌, ◌-◌, ◌^◌, min, ℕ, List, [], ◌∷◌, ◌++◌, map, length, take, All, codes}
use Rattle.std.specs.List.{flat_map, join_with_byte}
use Rattle.std.specs.Fmt.{decimal}
use Rattle.csv.specs.Reading.{AreRecords, default_config, strip_bom}
use Rattle.csv.specs.declared.parser.State.TheVariants.{StartRecord}
use Rattle.lt_model.specs.Operators.{number_of_kind}
use Rattle.lt_model.specs.declared.run.End.{End}
use Rattle.lt_model.specs.declared.run.End.TheVariants.{Returned, Stopped, Undefined, NoInput, Steps, Deep, Cells}
use Rattle.lt_cover.specs.declared.rows.TestEnd.{TestEnd}
use Rattle.lt_cover.specs.declared.rows.TestEnd.TheVariants.{Ran, Outside}
use Rattle.lt_cover.specs.declared.rows.LabelRow.{LabelRow}
use Rattle.lt_cover.specs.declared.rows.HyperState.{HyperState}
use Rattle.lt_cover.specs.declared.rows.HyperState.TheVariants.{Uncovered, TooWide, Covered}
use Rattle.lt_cover.specs.declared.rows.Row.{Row}
use Rattle.lt_cover.specs.declared.rows.Row.TheVariants.{Test, Label, Hyper}
use Rattle.lt_cover.specs.declared.rows.Version.{Version}
use Rattle.lt_cover.specs.declared.rows.Version.TheVariants.{One, Two}
use Rattle.lt_cover.specs.Coverage.Table.{Table, IsTable}

-- the word for the end of a run
abbrev pub run_word : End → List ℕ
run_word Returned = codes "returned"
run_word Stopped = codes "stopped"
run_word (Undefined kind) = codes "undefined " ++ decimal (number_of_kind kind)
run_word (NoInput stub) = codes "no-input " ++ stub
run_word Steps = codes "steps"
run_word Deep = codes "deep"
run_word Cells = codes "cells"

abbrev pub end_word : TestEnd → List ℕ
end_word (Ran end) = run_word end
end_word Outside = codes "outside"

-- a label is covered where a test covers it
abbrev pub label_word : List (List ℕ) → List ℕ
label_word [] = codes "uncovered"
label_word (name ∷ names) = codes "covered"

-- the names with a space between each two
abbrev pub names_text : List (List ℕ) → List ℕ
names_text names = join_with_byte 32 names

abbrev pub state_word : HyperState → List ℕ
state_word Uncovered = codes "uncovered"
state_word TooWide = codes "too-wide"
state_word Covered = codes "covered"

-- the five fields of a row
abbrev pub row_fields : Row → List (List ℕ)
row_fields (Test t) = codes "test" ∷ t.name ∷ [] ∷ end_word t.end ∷ [] ∷ []
row_fields (Label l) = codes "label" ∷ decimal l.id ∷ l.tag ∷ label_word l.by ∷ names_text l.by ∷ []
row_fields (Hyper h) = codes "hyper" ∷ decimal h.id ∷ h.tag ∷ state_word h.state ∷ [] ∷ []

abbrev pub version_word : Version → List ℕ
version_word One = codes "1"
version_word Two = codes "2"

-- the first row
abbrev pub header : Version → List (List ℕ)
header version = codes "ltest-cover" ∷ version_word version ∷ codes "tag" ∷ codes "state" ∷ codes "by" ∷ []

abbrev pub rows_in : Table → List Row
rows_in t = map Test t.tests ++ (map Label t.labels ++ map Hyper t.hypers)

abbrev pub rows_of : Version → Table → List (List (List ℕ))
rows_of version t = header version ∷ map row_fields (rows_in t)

-- version 1 has at most one name for a label
abbrev pub MayHold : Version → LabelRow → Type 0
MayHold One label = length label.by ≤ 1
MayHold Two label = Unit {0}

-- These rows are those of a table in a version.
pub record AreRowsOf (version : Version) (t : Table) (rows : List (List (List ℕ))) : Type 0 where
  pub table : IsTable t
  pub holds : All (MayHold version) t.labels
  pub are : rows ≡ rows_of version t

-- the rows stand for a table, in one of the versions
abbrev pub StandFor : List (List (List ℕ)) → Table → Type 0
StandFor rows t = (version : Version) × AreRowsOf version t rows

-- the rows of a text: what CSV reads of it
abbrev pub HasRows : List ℕ → List (List (List ℕ)) → Type 0
HasRows text rows = AreRecords default_config StartRecord (strip_bom text) rows

-- The text stands for a table.
abbrev pub IsCoverText : List ℕ → Table → Type 0
IsCoverText text t = (rows : List (List (List ℕ))) × HasRows text rows × StandFor rows t

-- Row n, counted from 1, is the first that breaks the grammar: each shorter front of the rows stands for a table, and the
-- front that ends with row n for none. Where there is no row at all, it is the first.
pub record IsFirstBroken (rows : List (List (List ℕ))) (n : ℕ) : Type 0 where
  pub some : 1 ≤ n
  pub before : (k : ℕ) → 1 ≤ k → k < n → (t : Table) × StandFor (take k rows) t
  pub here : (t : Table) → StandFor (take n rows) t → ⊥

-- The number of a row; one that 32 bits don't hold is written as the greatest that they do.
abbrev pub row_number : ℕ → ℕ
row_number n = min n (2 ^ 32 - 1)

-- The text stands for no table, and this is the number of the first row that breaks the grammar.
abbrev pub BreaksAt : List ℕ → ℕ → Type 0
BreaksAt text number = (rows : List (List (List ℕ))) × HasRows text rows × (n : ℕ) × IsFirstBroken rows n × (number ≡ row_number n)

-- a row as it is written: the fields with commas between them and a line feed behind
abbrev pub line : List (List ℕ) → List ℕ
line fields = join_with_byte 44 fields ++ 10 ∷ []

-- What is written of a table: its rows in version 2.
abbrev pub cover_text : Table → List ℕ
cover_text t = flat_map line (rows_of Two t)
