-- Refusals that name a line, and the names of a suite's tests.
use Rattle.std.proofs.Common.{◌≡◌, ℕ, List, Some, subst, sym}
use Rattle.lt_tree.specs.Typing.Programs.{Program}
use Rattle.lt_entry.specs.declared.test.Suite.{Suite}
use Rattle.lt_entry.specs.Specifications.{Specification, IsFirstBadLine, line_number}
use Rattle.lt_entry.specs.Suites.{IsSuite, IsFirstBadSuiteLine}
use Rattle.lt_input_suites.specs.Laws.{TestsOfASuiteDiffer}
use Rattle.lt_replayed.specs.Replayed.{NamesDiffer}
use Rattle.lt_answers.specs.Entries.{SpecifiesNone, bad_line, IsNoSuite, bad_suite_line}
use Rattle.lt_answers.specs.declared.status.Refusal.TheVariants.{Spec, Suite as SuiteLine}

-- the number of the first bad line of a specification, as it is answered
pub bad_line_there : (program : Program) (text : List ℕ) (line : ℕ) → ((number : ℕ) × IsFirstBadLine program text number × (line ≡ line_number number)) → SpecifiesNone program (Some text) (Spec line)
bad_line_there program text line (number, bad, is) = subst (λ n. SpecifiesNone program (Some text) (Spec n)) (sym is) (bad_line bad)

-- the same of a suite
pub bad_suite_line_there : (program : Program) (it : Specification) (text : List ℕ) (line : ℕ) → ((number : ℕ) × IsFirstBadSuiteLine program it text number × (line ≡ line_number number)) → IsNoSuite program it text (SuiteLine line)
bad_suite_line_there program it text line (number, bad, is) = subst (λ n. IsNoSuite program it text (SuiteLine n)) (sym is) (bad_suite_line bad)

-- The tests of a suite have names that differ.
pub names_differ : TestsOfASuiteDiffer → (program : Program) (it : Specification) (text : List ℕ) (suite : Suite) → IsSuite program it text suite → NamesDiffer suite.tests
names_differ law program it text suite is = record { differ = law program it text suite is }
