-- Which specification a text says, and which line is the first that is none.
use Rattle.std.specs.Prelude.{◌≡◌, ◌<◌, ℕ, suc, min, ◌-◌, ◌^◌, ◌&&◌, Bool, true, false, IsTrue, if◌then◌else◌, List, [], ◌∷◌, ◌++◌, length, map, take, drop, Option, Some, None}
use Rattle.std.specs.List.{list_all}
use Rattle.lt_model.specs.declared.input.Spec.{Spec}
use Rattle.lt_tree.specs.Typing.Programs.{Program}
use Rattle.lt_entry.specs.Lines.{Row, rows_of, count_of_lines}
use Rattle.lt_entry.specs.Naming.{Block, Scope}
use Rattle.lt_entry.specs.SpecificationLines.{Line, line_words}
use Rattle.lt_entry.specs.Conditions.{may_be_entry, entry_of, scope_behind, fits, needs_free}
use Rattle.lt_entry.specs.Meaning.{said_in}

-- what an entry's inputs are, and the types of the blocks, which the files of tests name by their parts
pub record Specification : Type 0 where
  pub spec : Spec
  pub blocks : List Block

abbrev pub specification_in : Scope → (entry : ℕ) → List Line → Specification
specification_in scope entry lines = record { spec = said_in scope entry lines; blocks = scope.blocks }

-- ---- lines in their places

abbrev pub words_in : List Row → List (List (List ℕ))
words_in rows = map (λ row. row.words) rows

-- each of the lines may stand behind those before it
abbrev pub all_fit : Program → List Row → (before lines : List Line) → Bool
all_fit program rows before [] = true
all_fit program rows before (line ∷ lines) = fits program rows before line && all_fit program rows (before ++ line ∷ []) lines

-- These are the first lines of the text, each in its place.
pub record IsFront (program : Program) (text : List ℕ) (lines : List Line) : Type 0 where
  pub written : words_in (take (length lines) (rows_of text)) ≡ map line_words lines
  pub fit : IsTrue (all_fit program (rows_of text) [] lines)

-- ---- specifications

-- The specification that a text says: all its lines are in their places, the first names the entry, and the cells of each requirement are free.
pub record IsSpecification (program : Program) (text : List ℕ) (it : Specification) : Type 0 where
  pub lines : List Line
  pub all : length lines ≡ length (rows_of text)
  pub front : IsFront program text lines
  pub entry : ℕ
  pub first : entry_of program lines ≡ Some entry
  pub free : IsTrue (list_all (needs_free (scope_behind program (rows_of text) entry lines) (rows_of text)) lines)
  pub says : it ≡ specification_in (scope_behind program (rows_of text) entry lines) entry lines

-- ---- lines that are none

-- the numbers of the rows whose requirements have a cell that isn't free in a file of all rows
abbrev pub unfree_rows : Scope → (all : List Row) → List Row → List Line → List ℕ
unfree_rows scope all (row ∷ rows) (line ∷ lines) =
    if needs_free scope all line then unfree_rows scope all rows lines else row.number ∷ unfree_rows scope all rows lines
unfree_rows scope all rows lines = []

abbrev pub unfree_lines : Program → List Row → Option ℕ → List Line → List ℕ
unfree_lines program rows None lines = []
unfree_lines program rows (Some entry) lines = unfree_rows (scope_behind program rows entry lines) rows rows lines

-- the number behind that of the last line, where no line names an entry
abbrev pub missing_entry : List ℕ → List Line → List ℕ
missing_entry text [] = suc (count_of_lines text) ∷ []
missing_entry text lines = []

-- The numbers of faulty lines, the first of which counts, where these are the lines up to the first that isn't in its place: the
-- requirements among them whose cells aren't free, then the line behind them and those that follow.
abbrev pub faulty_lines : Program → List ℕ → List Line → List ℕ
faulty_lines program text lines =
    unfree_lines program (rows_of text) (entry_of program lines) lines
    ++ map (λ row. row.number) (drop (length lines) (rows_of text))
    ++ missing_entry text lines

-- The first line that is no line of a specification in its place. What stands behind a line that isn't in its place says nothing.
pub record IsFirstBadLine (program : Program) (text : List ℕ) (number : ℕ) : Type 0 where
  pub lines : List Line
  pub front : IsFront program text lines
  pub longest : (line : Line) → IsFront program text (lines ++ line ∷ []) → ⊥
  pub others : List ℕ
  pub first : faulty_lines program text lines ≡ number ∷ others

-- The number of a line as it is answered: no text that a program reads has so many.
abbrev pub line_number : ℕ → ℕ
line_number n = min n (2 ^ 32 - 1)

-- ---- with no file

-- the last function with a body that may be an entry
pub record IsLastEntry (program : Program) (entry : ℕ) : Type 0 where
  pub there : entry < length program.functions
  pub fits : may_be_entry program entry ≡ true
  pub last : (k : ℕ) → entry < k → k < length program.functions → may_be_entry program k ≡ false

-- no function with a body may be an entry
abbrev pub HasNoEntry : Program → Type 0
HasNoEntry program = (k : ℕ) → k < length program.functions → may_be_entry program k ≡ false

-- What the line `entry` alone says of the last function that may be an entry.
pub record IsDefault (program : Program) (it : Specification) : Type 0 where
  pub entry : ℕ
  pub last : IsLastEntry program entry
  pub says : it ≡ specification_in (scope_behind program [] entry []) entry []
