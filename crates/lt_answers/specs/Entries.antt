-- What the other files of a replay say of a program: the entry's specification, the suite and the old coverage; and why one says nothing.
use Rattle.std.specs.Prelude.{ℕ, List, Option, Some, None}
use Rattle.lt_tree.specs.Typing.Programs.{Program}
use Rattle.lt_entry.specs.Specifications.{Specification, IsSpecification, IsFirstBadLine, IsDefault, HasNoEntry, line_number}
use Rattle.lt_entry.specs.Suites.{IsFirstBadSuiteLine}
use Rattle.lt_cover.specs.Coverage.Table.{Table}
use Rattle.lt_cover.specs.Coverage.Text.{IsCoverText, BreaksAt}
use Rattle.lt_answers.specs.declared.status.Refusal.{Refusal}
use Rattle.lt_answers.specs.declared.status.Refusal.TheVariants.{NoEntry, Spec, Suite, Cover}

-- The specification is the one that the file of `--entry` says, or the default one where there is none.
abbrev pub Specifies : Program → Option (List ℕ) → Specification → Type 0
Specifies program (Some text) it = IsSpecification program text it
Specifies program None it = IsDefault program it

-- Why there is no specification: the first line of the file that is no line of one where it stands; without a file, that no function may be an entry.
pub data SpecifiesNone (program : Program) : Option (List ℕ) → Refusal → Type 0 where
  bad_line : {text : List ℕ} {number : ℕ} → IsFirstBadLine program text number → SpecifiesNone program (Some text) (Spec (line_number number))
  no_entry : HasNoEntry program → SpecifiesNone program None NoEntry

-- why a text is no suite: its first line that is no line of one where it stands
pub data IsNoSuite (program : Program) (it : Specification) (text : List ℕ) : Refusal → Type 0 where
  bad_suite_line : {number : ℕ} → IsFirstBadSuiteLine program it text number → IsNoSuite program it text (Suite (line_number number))

-- The old coverage is that of the file of `--cover`, if there is one.
abbrev pub IsOld : Option (List ℕ) → Option Table → Type 0
IsOld (Some text) (Some old) = IsCoverText text old
IsOld None None = Unit {0}
IsOld _ _ = ⊥

-- why a text is no coverage file: its first row that breaks the grammar
pub data IsNoCoverage (text : List ℕ) : Refusal → Type 0 where
  bad_row : {row : ℕ} → BreaksAt text row → IsNoCoverage text (Cover row)

-- why the file of `--cover` has no coverage
abbrev pub IsNoOld : Option (List ℕ) → Refusal → Type 0
IsNoOld (Some text) why = IsNoCoverage text why
IsNoOld None why = ⊥
