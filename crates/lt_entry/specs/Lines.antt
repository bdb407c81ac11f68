-- The lines of a file, and their words.
use Rattle.std.specs.Prelude.{ℕ, suc, ◌==◌, Bool, true, false, not, if◌then◌else◌, List, [], ◌∷◌, filter}
use Rattle.std.specs.List.{slice_split}
use Rattle.std.specs.Str.Lines.{strip_carriage_return}

abbrev pub is_empty : List ℕ → Bool
is_empty [] = true
is_empty (b ∷ bytes) = false

-- The text between its line feeds. What stands behind the last line feed is a line only if it isn't empty.
abbrev pub pieces_of : List ℕ → List (List ℕ)
pieces_of text = slice_split (λ b. b == 10) text

abbrev pub lines_among : List (List ℕ) → ℕ
lines_among [] = 0
lines_among (piece ∷ []) = if is_empty piece then 0 else 1
lines_among (piece ∷ pieces) = suc (lines_among pieces)

-- how many lines a text has
abbrev pub count_of_lines : List ℕ → ℕ
count_of_lines text = lines_among (pieces_of text)

-- Empty lines, and those that begin with a number sign, are skipped.
abbrev pub is_skipped : List ℕ → Bool
is_skipped [] = true
is_skipped (b ∷ line) = b == 35

-- The words of a line, with one or more spaces between them. Nothing but a space separates, and a line of spaces alone has no word.
abbrev pub words_of : List ℕ → List (List ℕ)
words_of line = filter (λ word. not (is_empty word)) (slice_split (λ b. b == 32) line)

-- a line that isn't skipped: its number in the text, from 1, and its words
pub record Row : Type 0 where
  pub number : ℕ
  pub words : List (List ℕ)

-- the line that begins here, with others behind it
abbrev pub before_rows : ℕ → List ℕ → List Row → List Row
before_rows number line rows = if is_skipped line then rows else record { number = number; words = words_of line } ∷ rows

-- the lines that aren't skipped, each without the one carriage return at its end
abbrev pub rows_from : ℕ → List (List ℕ) → List Row
rows_from number [] = []
rows_from number (piece ∷ pieces) = before_rows number (strip_carriage_return piece) (rows_from (suc number) pieces)

abbrev pub rows_of : List ℕ → List Row
rows_of text = rows_from 1 (pieces_of text)
