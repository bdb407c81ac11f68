-- The lines of a suite, and the tests that they say.
use Rattle.std.specs.Prelude.{◌≡◌, ℕ, ◌==◌, ◌&&◌, nat_le, Bool, true, false, not, IsTrue, if◌then◌else◌, List, [], ◌∷◌, ◌++◌, length, map, take, drop, flat_map, codes, Option, Some, None, option_map, unwrap_or}
use Rattle.std.specs.List.{list_all, list_any}
use Rattle.std.specs.Str.{bytes_eq}
use Rattle.lt_model.specs.declared.input.CellSet.{CellSet}
use Rattle.lt_model.specs.declared.input.CellSet.TheVariants as cellset
use Rattle.lt_model.specs.declared.input.Place.{Place}
use Rattle.lt_model.specs.declared.input.StubSet.{StubSet}
use Rattle.lt_model.specs.declared.scalar.DataModel.{DataModel}
use Rattle.lt_model.specs.declared.scalar.Scalar.{Scalar}
use Rattle.lt_model.specs.Operators.{is_value}
use Rattle.lt_tree.specs.Typing.Types.{CType, scalar_of, target_of}
use Rattle.lt_tree.specs.Typing.Programs.{Program}
use Rattle.lt_entry.specs.declared.test.Test.{Test}
use Rattle.lt_entry.specs.declared.test.Suite.{Suite}
use Rattle.lt_entry.specs.Lines.{Row, rows_of}
use Rattle.lt_entry.specs.Written.{Numeral, value_of, numeral_word, is_numeral, is_name_byte, PlaceWord, place_word, is_place, is_single, TargetWord, target_word, is_target, is_single_target}
use Rattle.lt_entry.specs.Naming.{Scope, parameters_of, Named, named_by, targets_of}
use Rattle.lt_entry.specs.Conditions.{same_place, each_named, stub_among, stubs_of}
use Rattle.lt_entry.specs.Specifications.{Specification, words_in}

-- ---- lines

pub data SuiteLine : Type 0 where
  test_line : (name : List ℕ) → SuiteLine
  set_line : (place : PlaceWord) (value : Numeral) → SuiteLine
  point_line : (place : PlaceWord) (target : TargetWord) → SuiteLine
  values_line : (stub : List ℕ) (values : List Numeral) → SuiteLine

abbrev pub suite_words : SuiteLine → List (List ℕ)
suite_words (test_line name) = codes "test" ∷ name ∷ []
suite_words (set_line place value) = codes "set" ∷ place_word place ∷ numeral_word value ∷ []
suite_words (point_line place target) = codes "point" ∷ place_word place ∷ target_word target ∷ []
suite_words (values_line stub values) = codes "stub" ∷ stub ∷ map numeral_word values

-- 1 to 64 letters, digits and low lines
abbrev pub is_test_name : List ℕ → Bool
is_test_name name = nat_le 1 (length name) && nat_le (length name) 64 && list_all is_name_byte name

-- Its names, places and numbers are of their forms, and no place goes to every element.
abbrev pub is_suite_form : SuiteLine → Bool
is_suite_form (test_line name) = is_test_name name
is_suite_form (set_line place value) = is_place place && is_single place && is_numeral value
is_suite_form (point_line place target) = is_place place && is_single place && is_target target && is_single_target target
is_suite_form (values_line stub values) = list_all is_numeral values

-- ---- conditions

abbrev pub is_test_line : SuiteLine → Bool
is_test_line (test_line name) = true
is_test_line line = false

-- the lines behind the last `test` line
abbrev pub of_last_test : List SuiteLine → List SuiteLine
of_last_test [] = []
of_last_test (line ∷ lines) = if list_any is_test_line lines then of_last_test lines else if is_test_line line then lines else line ∷ lines

abbrev pub names_test : List ℕ → SuiteLine → Bool
names_test name (test_line other) = bytes_eq other name
names_test name line = false

abbrev pub sets_cell : Scope → Place → SuiteLine → Bool
sets_cell scope place (set_line word value) = list_any (λ it. same_place it.place place) (named_by scope word)
sets_cell scope place (point_line word target) = list_any (λ it. same_place it.place place) (named_by scope word)
sets_cell scope place line = false

abbrev pub sets_stub : List ℕ → SuiteLine → Bool
sets_stub name (values_line stub values) = bytes_eq stub name
sets_stub name line = false

abbrev pub is_number : DataModel → Numeral → Option Scalar → Bool
is_number model value None = false
is_number model value (Some s) = is_value model s (value_of value)

abbrev pub is_target_for : Scope → TargetWord → Option CType → Bool
is_target_for scope target None = false
is_target_for scope target (Some pointed) = not (length (targets_of scope pointed target) == 0)

abbrev pub fits_in_test : Scope → List SuiteLine → SuiteLine → Bool
fits_in_test scope before (test_line name) = true
fits_in_test scope before (set_line place value) =
    each_named (λ it. is_number scope.program.model value (scalar_of it.type) && not (list_any (sets_cell scope it.place) before)) (named_by scope place)
fits_in_test scope before (point_line place target) =
    each_named (λ it. is_target_for scope target (target_of it.type) && not (list_any (sets_cell scope it.place) before)) (named_by scope place)
fits_in_test scope before (values_line stub values) =
    list_all (λ value. is_number scope.program.model value (stub_among stub (stubs_of scope.program))) values
    && list_any (λ other. bytes_eq other.name stub) (stubs_of scope.program) && not (list_any (sets_stub stub) before)

abbrev pub fits_suite : Scope → List SuiteLine → SuiteLine → Bool
fits_suite scope [] line = is_test_line line && is_suite_form line
fits_suite scope before line =
    is_suite_form line && not (is_again before line) && fits_in_test scope (of_last_test before) line
  where
    is_again : List SuiteLine → SuiteLine → Bool
    is_again lines (test_line name) = list_any (names_test name) lines
    is_again lines other = false

-- ---- tests

-- the lines of the test that has begun
abbrev pub of_this_test : List SuiteLine → List SuiteLine
of_this_test [] = []
of_this_test (line ∷ lines) = if is_test_line line then [] else line ∷ of_this_test lines

abbrev pub points_to : Scope → TargetWord → Named → List CellSet
points_to scope target it = map (cellset.Point it.place) (unwrap_or (option_map (λ pointed. targets_of scope pointed target) (target_of it.type)) [])

abbrev pub cells_set : Scope → SuiteLine → List CellSet
cells_set scope (set_line place value) = map (λ it. cellset.Number it.place (value_of value)) (named_by scope place)
cells_set scope (point_line place target) = flat_map (points_to scope target) (named_by scope place)
cells_set scope line = []

abbrev pub stubs_set : SuiteLine → List StubSet
stubs_set (values_line stub values) = record { name = stub; values = map value_of values } ∷ []
stubs_set line = []

abbrev pub test_said : Scope → (name : List ℕ) → List SuiteLine → Test
test_said scope name lines = record { name = name; cells = flat_map (cells_set scope) lines; stubs = flat_map stubs_set lines }

abbrev pub tests_said : Scope → List SuiteLine → List Test
tests_said scope [] = []
tests_said scope (test_line name ∷ lines) = test_said scope name (of_this_test lines) ∷ tests_said scope lines
tests_said scope (line ∷ lines) = tests_said scope lines

-- ---- suites

-- what names stand for in the suites of a specification
abbrev pub suite_scope : Program → Specification → Scope
suite_scope program it = record { program = program; parameters = parameters_of program it.spec.entry; blocks = it.blocks }

abbrev pub all_fit_suite : Scope → (before lines : List SuiteLine) → Bool
all_fit_suite scope before [] = true
all_fit_suite scope before (line ∷ lines) = fits_suite scope before line && all_fit_suite scope (before ++ line ∷ []) lines

-- These are the first lines of the text, each in its place.
pub record IsSuiteFront (scope : Scope) (text : List ℕ) (lines : List SuiteLine) : Type 0 where
  pub written : words_in (take (length lines) (rows_of text)) ≡ map suite_words lines
  pub fit : IsTrue (all_fit_suite scope [] lines)

-- the suite that a text says
pub record IsSuite (program : Program) (it : Specification) (text : List ℕ) (suite : Suite) : Type 0 where
  pub lines : List SuiteLine
  pub all : length lines ≡ length (rows_of text)
  pub front : IsSuiteFront (suite_scope program it) text lines
  pub says : suite.tests ≡ tests_said (suite_scope program it) lines

-- the first line that is no line of a suite in its place
pub record IsFirstBadSuiteLine (program : Program) (it : Specification) (text : List ℕ) (number : ℕ) : Type 0 where
  pub lines : List SuiteLine
  pub front : IsSuiteFront (suite_scope program it) text lines
  pub longest : (line : SuiteLine) → IsSuiteFront (suite_scope program it) text (lines ++ line ∷ []) → ⊥
  pub row : Row
  pub others : List Row
  pub behind : drop (length lines) (rows_of text) ≡ row ∷ others
  pub is : number ≡ row.number
