-- The rows of coverage, in order, and the table of a coverage file.
use Rattle.std.specs.Prelude.{ℕ, List, map, All, Contains}
use Rattle.std.specs.List.Sorted.{IsStrictlySortedBy}
use Rattle.std.specs.Ordering.{nat_cmp}
use Rattle.std.specs.Cmp.Lexicographic.{slice_cmp}
use Rattle.lt_model.specs.declared.run.End.{End}
use Rattle.lt_model.specs.declared.run.End.TheVariants.{NoInput}
use Rattle.lt_cover.specs.declared.rows.TestEnd.{TestEnd}
use Rattle.lt_cover.specs.declared.rows.TestEnd.TheVariants.{Ran, Outside}
use Rattle.lt_cover.specs.declared.rows.TestRow.{TestRow}
use Rattle.lt_cover.specs.declared.rows.LabelRow.{LabelRow}
use Rattle.lt_cover.specs.declared.rows.HyperRow.{HyperRow}
use Rattle.lt_cover.specs.Coverage.Names.{IsTestName, IsIdentifier, IsTag, IsId}

pub record Table : Type 0 where
  pub tests : List TestRow
  pub labels : List LabelRow
  pub hypers : List HyperRow

-- the name of the function for which no value was left is an identifier
abbrev pub IsRunEnd : End → Type 0
IsRunEnd (NoInput stub) = IsIdentifier stub
IsRunEnd _ = Unit {0}

abbrev pub IsEnd : TestEnd → Type 0
IsEnd (Ran end) = IsRunEnd end
IsEnd Outside = Unit {0}

pub record IsTestRow (test : TestRow) : Type 0 where
  pub name : IsTestName test.name
  pub end : IsEnd test.end

-- each name is below those after it, by bytes
abbrev pub NamesRise : List (List ℕ) → Type 0
NamesRise names = IsStrictlySortedBy (slice_cmp nat_cmp) names

abbrev pub names_of : List TestRow → List (List ℕ)
names_of tests = map (λ (t : TestRow). t.name) tests

-- A label's covering names rise, and each is the name of a test of the table.
pub record IsCoveredBy (names : List (List ℕ)) (label : LabelRow) : Type 0 where
  pub rise : NamesRise label.by
  pub known : All (λ name. Contains names name) label.by

pub record IsLabelRow (label : LabelRow) : Type 0 where
  pub id : IsId label.id
  pub tag : IsTag label.tag

pub record IsHyperRow (hyper : HyperRow) : Type 0 where
  pub id : IsId hyper.id
  pub tag : IsTag hyper.tag

abbrev pub label_ids : List LabelRow → List ℕ
label_ids labels = map (λ (l : LabelRow). l.id) labels

abbrev pub hyper_ids : List HyperRow → List ℕ
hyper_ids hypers = map (λ (h : HyperRow). h.id) hypers

-- Rows stand in order, each once, and labels are covered by tests of the table: what a table keeps, whatever its names are.
pub record IsOrdered (t : Table) : Type 0 where
  pub tests_rise : NamesRise (names_of t.tests)
  pub labels_rise : IsStrictlySortedBy nat_cmp (label_ids t.labels)
  pub hypers_rise : IsStrictlySortedBy nat_cmp (hyper_ids t.hypers)
  pub covered : All (IsCoveredBy (names_of t.tests)) t.labels

-- The table of a coverage file: its names, tags and ids have their forms, too.
pub record IsTable (t : Table) : Type 0 where
  pub ordered : IsOrdered t
  pub each_test : All IsTestRow t.tests
  pub each_label : All IsLabelRow t.labels
  pub each_hyper : All IsHyperRow t.hypers
