-- What replaying a suite on an entry of a typed program gives: how each test is over, and which tests cover each label, after Bardin, Kosmatov
-- and Cheynier (ICST 2014).
use Rattle.std.specs.Prelude.{◌≡◌, ◌↔◌, ℕ, ◌==◌, Bool, true, false, IsTrue, List, [], All, Contains, find, slice_get, Option, Some, None, option_map}
use Rattle.lt_model.specs.declared.input.Spec.{Spec}
use Rattle.lt_model.specs.declared.run.End.{End}
use Rattle.lt_model.specs.declared.run.End.TheVariants.{Returned, Stopped, Undefined, NoInput, Steps, Deep, Cells}
use Rattle.lt_model.specs.State.{Made}
use Rattle.lt_tree.specs.Typing.Entities.{Function}
use Rattle.lt_tree.specs.Typing.Programs.{Program}
use Rattle.lt_ir.specs.Running.{Over}
use Rattle.lt_meaning.specs.Runs.{run}
use Rattle.lt_entry.specs.declared.test.Test.{Test}
use Rattle.lt_entry.specs.declared.test.Suite.{Suite}
use Rattle.lt_entry.specs.Meeting.{Meets}
use Rattle.lt_entry.specs.Inputs.{built}
use Rattle.lt_cover.specs.declared.rows.TestEnd.{TestEnd}
use Rattle.lt_cover.specs.declared.rows.TestEnd.TheVariants.{Ran, Outside}
use Rattle.lt_cover.specs.declared.rows.TestRow.{TestRow}
use Rattle.lt_cover.specs.declared.rows.LabelRow.{LabelRow}
use Rattle.lt_cover.specs.Coverage.Table.{Table, IsOrdered}
use Rattle.lt_cover.specs.Coverage.Merge.{label_keys}

-- a function with a body as the entry of runs, the inputs that it may have, and the ticks of a run
pub record Setting : Type 0 where
  pub program : Program
  pub entry : Function
  pub spec : Spec
  pub steps : ℕ

-- ---- tests

-- The input of a test meets the specification.
abbrev pub IsInside : Setting → Test → Type 0
IsInside setting test = Meets setting.spec (built test setting.spec)

-- the run of the entry on the input of a test
abbrev pub run_of : Setting → Test → Over
run_of setting test = run setting.program setting.entry (built test setting.spec) setting.steps

-- How a test is over: as its run is, where its input meets the specification; else it is outside.
pub data IsOverSo (setting : Setting) (test : Test) : TestEnd → Type 0 where
  is_run : IsInside setting test → IsOverSo setting test (Ran (run_of setting test).end)
  is_outside : (IsInside setting test → ⊥) → IsOverSo setting test Outside

-- ---- labels

-- A run that lacked ticks, or came to too many calls or cells, didn't end.
abbrev pub has_ended : End → Bool
has_ended Returned = true
has_ended Stopped = true
has_ended (Undefined kind) = true
has_ended (NoInput stub) = true
has_ended Steps = false
has_ended Deep = false
has_ended Cells = false

-- a true mark of the label was made
abbrev pub MakesTrue : List Made → (id : ℕ) → Type 0
MakesTrue marks id = (mark : Made) × Contains marks mark × (mark.id ≡ id) × (mark.truth ≡ true)

-- A test covers a label where its input meets the specification, its run ends, and the run makes a true mark of the label.
pub record Covers (setting : Setting) (id : ℕ) (test : Test) : Type 0 where
  pub inside : IsInside setting test
  pub ended : IsTrue (has_ended (run_of setting test).end)
  pub mark : MakesTrue (run_of setting test).at.marks id

-- the tag of the label of this id, the first in the text
abbrev pub tag_of : Program → (id : ℕ) → Option (List ℕ)
tag_of program id = option_map (λ label. label.tag) (find (λ label. label.id == id) program.labels)

-- ---- the table

-- The row tells how a test of its name is over.
abbrev pub IsRowOf : Setting → List Test → TestRow → Type 0
IsRowOf setting tests row = (test : Test) × Contains tests test × (test.name ≡ row.name) × IsOverSo setting test row.end

-- The names of a label's row are those of the tests that cover it.
abbrev pub IsCoveredBy : Setting → List Test → LabelRow → Type 0
IsCoveredBy setting tests row =
    (name : List ℕ) → Contains row.by name ↔ ((test : Test) × Contains tests test × (test.name ≡ name) × Covers setting row.id test)

-- The table of a suite: its tests in byte order of their names, and the labels of the program in the order of their ids.
pub record IsTableOf (setting : Setting) (suite : List Test) (table : Table) : Type 0 where
  pub ordered : IsOrdered table
  pub tests : (row : TestRow) → Contains table.tests row ↔ IsRowOf setting suite row
  pub labels : (id : ℕ) (tag : List ℕ) → Contains (label_keys table.labels) (id, tag) ↔ (tag_of setting.program id ≡ Some tag)
  pub covered : All (IsCoveredBy setting suite) table.labels
  pub hypers : table.hypers ≡ []

-- The coverage of a suite on the entry that a specification names.
pub record IsCoverage (program : Program) (spec : Spec) (suite : Suite) (steps : ℕ) (coverage : Table) : Type 0 where
  pub entry : Function
  pub named : slice_get program.functions spec.entry ≡ Some entry
  pub table : IsTableOf (record { program = program; entry = entry; spec = spec; steps = steps }) suite.tests coverage

-- Each name stands once.
pub record NamesDiffer (tests : List Test) : Type 0 where
  pub differ : (i j : ℕ) (first second : Test) → slice_get tests i ≡ Some first → slice_get tests j ≡ Some second → first.name ≡ second.name → i ≡ j
