-- What the lines of a suite so far say, as it lies in memory.
use Rattle.std.specs.Prelude.{◌≡◌, ℕ, ◌==◌, ◌&&◌, ◌||◌, not, Bool, true, false, List, [], ◌∷◌, ◌++◌, map, Option, None, Some, option_to_list}
use Rattle.std.specs.List.{list_any}
use Rattle.std.specs.Borrow.{Bor}
use Rattle.std.specs.HashSet.{HashSet, contains_by}
use Rattle.std.specs.Str.{bytes_eq}
use Rattle.lt_model.specs.declared.input.Place.{Place}
use Rattle.lt_entry.specs.declared.test.Test.{Test}
use Rattle.lt_entry.specs.Naming.{Scope}
use Rattle.lt_entry.specs.Conditions.{same_place}
use Rattle.lt_entry.specs.Suites.{SuiteLine, suite_words, is_suite_form, of_last_test, names_test, sets_cell, sets_stub, fits_in_test, fits_suite, cells_set, stubs_set, tests_said}
use Rattle.lt_input_names.specs.Stubs.{has_name}
use Rattle.lt_input_wants.specs.Marks.{is_marked}
use Rattle.lt_input_suites.specs.declared.begun.Begun.{Begun}
use Rattle.lt_input_suites.specs.declared.draft.Draft.{Draft}

-- ---- the test that has begun

abbrev pub test_of : Begun → Test
test_of test = record { name = test.name.now; cells = test.cells.items; stubs = test.stubs.items }

-- a test with what another line says
abbrev pub with_line : Scope → SuiteLine → Test → Test
with_line scope line test = record test { cells = test.cells ++ cells_set scope line; stubs = test.stubs ++ stubs_set line }

-- The places and functions of the test are those that these lines set.
pub record HasSet (scope : Scope) (lines : List SuiteLine) (test : Begun) : Type 0 where
  pub places : (place : Place) → is_marked test.places place ≡ list_any (sets_cell scope place) lines
  pub functions : (name : List ℕ) → has_name test.functions name ≡ list_any (sets_stub name) lines

-- whether the line fits behind these in the test, and what the test is then
pub record IsPut (scope : Scope) (lines : List SuiteLine) (line : SuiteLine) (old new : Begun) (taken : Bool) : Type 0 where
  pub fits : taken ≡ fits_in_test scope lines line
  pub said : taken ≡ true → test_of new ≡ with_line scope line (test_of old)
  pub set : taken ≡ true → HasSet scope (lines ++ line ∷ []) new

abbrev pub Puts : Scope → SuiteLine → (old new : Begun) → Bool → Type 0
Puts scope line old new taken = (lines : List SuiteLine) → is_suite_form line ≡ true → HasSet scope lines old → IsPut scope lines line old new taken

-- ---- all tests

abbrev pub tests_of : Draft → List Test
tests_of draft = draft.tests.items ++ map test_of (option_to_list draft.begun)

-- No test is begun: the last is over.
pub record HasEnded (old new : Draft) : Type 0 where
  pub tests : new.tests.items ≡ tests_of old
  pub names : new.names ≡ old.names
  pub begun : new.begun ≡ None

abbrev pub HasBegun : Scope → List SuiteLine → Option Begun → Type 0
HasBegun scope lines None = lines ≡ []
HasBegun scope lines (Some test) = HasSet scope (of_last_test lines) test

-- The draft has the tests that these lines say.
pub record IsDraft (scope : Scope) (lines : List SuiteLine) (draft : Draft) : Type 0 where
  pub names : (name : List ℕ) → has_name draft.names name ≡ list_any (names_test name) lines
  pub tests : tests_of draft ≡ tests_said scope lines
  pub begun : HasBegun scope lines draft.begun

-- whether the line fits behind these, and what the draft has then
pub record IsTaken (scope : Scope) (lines : List SuiteLine) (line : SuiteLine) (new : Draft) (taken : Bool) : Type 0 where
  pub fits : taken ≡ fits_suite scope lines line
  pub draft : taken ≡ true → IsDraft scope (lines ++ line ∷ []) new

abbrev pub Takes : Scope → SuiteLine → (old new : Draft) → Bool → Type 0
Takes scope line old new taken = (lines : List SuiteLine) → is_suite_form line ≡ true → IsDraft scope lines old → IsTaken scope lines line new taken

-- These words are a line that fits behind these, and the draft has the tests of all; or they are none.
abbrev pub IsRead : Scope → (lines : List SuiteLine) → (words : List (List ℕ)) → Draft → Bool → Type 0
IsRead scope lines words new true = (line : SuiteLine) × (suite_words line ≡ words) × (fits_suite scope lines line ≡ true) × IsDraft scope (lines ++ line ∷ []) new
IsRead scope lines words new false = (line : SuiteLine) → suite_words line ≡ words → fits_suite scope lines line ≡ false

abbrev pub Reads : Scope → (words : List (List ℕ)) → (old new : Draft) → Bool → Type 0
Reads scope words old new taken = (lines : List SuiteLine) → IsDraft scope lines old → IsRead scope lines words new taken
