-- What `replay` and `convert` give: the text that is put, or the refusal that comes first.
use Rattle.std.specs.Prelude.{◌≡◌, ℕ, List, Option, Some, None}
use Rattle.lt_model.specs.declared.scalar.DataModel.{DataModel}
use Rattle.lt_tree.specs.Typing.Programs.{Program}
use Rattle.lt_entry.specs.declared.test.Suite.{Suite}
use Rattle.lt_entry.specs.Specifications.{Specification}
use Rattle.lt_entry.specs.Suites.{IsSuite}
use Rattle.lt_cover.specs.Coverage.Table.{Table}
use Rattle.lt_cover.specs.Coverage.Text.{IsCoverText, cover_text}
use Rattle.lt_cover.specs.Coverage.Merge.{IsMerge, IsLeastMixed, IsLeastDiffering, label_keys, hyper_keys}
use Rattle.lt_replayed.specs.Replayed.{IsCoverage}
use Rattle.lt_answers.specs.Programs.{IsProgram, HasNoProgram}
use Rattle.lt_answers.specs.Entries.{Specifies, SpecifiesNone, IsNoSuite, IsOld, IsNoOld}
use Rattle.lt_answers.specs.declared.status.Refusal.{Refusal}
use Rattle.lt_answers.specs.declared.status.Refusal.TheVariants.{Mixed, MixedHyper, MixedTest}

-- what a replay works on: the bytes of its files, and what its options say
pub record Sources : Type 0 where
  pub file : List ℕ
  pub suite : List ℕ
  pub entry : Option (List ℕ)
  pub cover : Option (List ℕ)
  pub model : DataModel
  pub steps : ℕ

-- ---- stages, in the order in which files are understood

pub record HasProgram (from : Sources) : Type 0 where
  pub program : Program
  pub is : IsProgram from.model from.file program

pub record HasSpecification (from : Sources) : Type 0 where
  pub before : HasProgram from
  pub it : Specification
  pub is : Specifies before.program from.entry it

pub record HasSuite (from : Sources) : Type 0 where
  pub before : HasSpecification from
  pub suite : Suite
  pub is : IsSuite before.before.program before.it from.suite suite

pub record HasCoverage (from : Sources) : Type 0 where
  pub before : HasSuite from
  pub old : Option Table
  pub is_old : IsOld from.cover old
  pub new : Table
  pub is_new : IsCoverage before.before.before.program before.before.it.spec before.suite from.steps new

-- ---- what is put

-- the merge with the old coverage, where there is one
abbrev pub IsMerged : Table → Option Table → Table → Type 0
IsMerged new None table = table ≡ new
IsMerged new (Some old) table = IsMerge new old table

-- The table is the coverage of the suite's runs, merged with the old one.
pub record IsCovered (from : Sources) (table : Table) : Type 0 where
  pub coverage : HasCoverage from
  pub merged : IsMerged coverage.new coverage.old table

-- The text is that of this table.
pub record IsReplay (from : Sources) (out : List ℕ) : Type 0 where
  pub table : Table
  pub covered : IsCovered from table
  pub is : out ≡ cover_text table

-- `out` is version 2 of the table for which `text` stands.
pub record IsConversion (text out : List ℕ) : Type 0 where
  pub table : Table
  pub stands : IsCoverText text table
  pub is : out ≡ cover_text table

-- ---- refusals

-- Two tables have no merge, and this is the refusal: the least label, hyperlabel or test on which they don't agree.
pub data AreMixed (new old : Table) : Refusal → Type 0 where
  mixed_label : {id : ℕ} → IsLeastMixed (label_keys new.labels) (label_keys old.labels) id → AreMixed new old (Mixed id)
  mixed_hyper : {id : ℕ} → label_keys new.labels ≡ label_keys old.labels
      → IsLeastMixed (hyper_keys new.hypers) (hyper_keys old.hypers) id → AreMixed new old (MixedHyper id)
  mixed_test : {name : List ℕ} → label_keys new.labels ≡ label_keys old.labels → hyper_keys new.hypers ≡ hyper_keys old.hypers
      → IsLeastDiffering new.tests old.tests name → AreMixed new old (MixedTest name)

-- The first reason why a replay is refused: files are understood in this order, and a merge comes last.
pub data Refuses (from : Sources) : Refusal → Type 0 where
  no_program : {why : Refusal} → HasNoProgram from.model from.file why → Refuses from why
  no_specification : {why : Refusal} → (before : HasProgram from) → SpecifiesNone before.program from.entry why → Refuses from why
  no_suite : {why : Refusal} → (before : HasSpecification from) → IsNoSuite before.before.program before.it from.suite why → Refuses from why
  no_old : {why : Refusal} → HasSuite from → IsNoOld from.cover why → Refuses from why
  mixed : {why : Refusal} {old : Table} → (before : HasCoverage from) → before.old ≡ Some old → AreMixed before.new old why → Refuses from why
