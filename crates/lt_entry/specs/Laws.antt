-- Lines that are read are those that their words write, and each line of its form is read.
use Rattle.std.specs.Prelude.{◌≡◌, ◌↔◌, ℕ, true, List, Some}
use Rattle.lt_tree.specs.Typing.Programs.{Program}
use Rattle.lt_entry.specs.declared.test.Suite.{Suite}
use Rattle.lt_entry.specs.SpecificationLines.{Line, line_words, is_in_form}
use Rattle.lt_entry.specs.Specifications.{Specification, IsSpecification, IsFirstBadLine}
use Rattle.lt_entry.specs.Suites.{SuiteLine, suite_words, is_suite_form, IsSuite, IsFirstBadSuiteLine}
use Rattle.lt_entry.specs.ReadingLines.{read_line, read_suite_line}

-- The words of a specification's line are read as a line exactly where they are the words of that line, and it is of its form.
abbrev pub LinesAreRead : Type 0
LinesAreRead = (words : List (List ℕ)) (line : Line) → (read_line words ≡ Some line) ↔ ((is_in_form line ≡ true) × (line_words line ≡ words))

-- The words of a suite's line are read as a line exactly where they are the words of that line, and it is of its form.
abbrev pub SuiteLinesAreRead : Type 0
SuiteLinesAreRead = (words : List (List ℕ)) (line : SuiteLine) → (read_suite_line words ≡ Some line) ↔ ((is_suite_form line ≡ true) × (suite_words line ≡ words))

-- A text says one specification or has one first bad line, if it says any or has any.
pub record SpecificationsAreOne (program : Program) (text : List ℕ) : Type 0 where
  pub said : (one other : Specification) → IsSpecification program text one → IsSpecification program text other → one ≡ other
  pub bad : (m n : ℕ) → IsFirstBadLine program text m → IsFirstBadLine program text n → m ≡ n
  pub apart : (it : Specification) (n : ℕ) → IsSpecification program text it → IsFirstBadLine program text n → ⊥

-- A text says one suite of a specification or has one first bad line, if it says any or has any.
pub record SuitesAreOne (program : Program) (it : Specification) (text : List ℕ) : Type 0 where
  pub said : (one other : Suite) → IsSuite program it text one → IsSuite program it text other → one ≡ other
  pub bad : (m n : ℕ) → IsFirstBadSuiteLine program it text m → IsFirstBadSuiteLine program it text n → m ≡ n
  pub apart : (suite : Suite) (n : ℕ) → IsSuite program it text suite → IsFirstBadSuiteLine program it text n → ⊥

abbrev pub TextsSayOneSpecification : Type 0
TextsSayOneSpecification = (program : Program) (text : List ℕ) → SpecificationsAreOne program text

abbrev pub TextsSayOneSuite : Type 0
TextsSayOneSuite = (program : Program) (it : Specification) (text : List ℕ) → SuitesAreOne program it text
