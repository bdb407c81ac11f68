-- Lines that stand in their places, in the order of their rows.
use Rattle.std.specs.Prelude.{◌≡◌, ℕ, true, false, List, [], ◌∷◌, ◌++◌, length, map, take, Option, Some, None}
use Rattle.lt_tree.specs.Typing.Programs.{Program}
use Rattle.lt_entry.specs.Lines.{Row}
use Rattle.lt_entry.specs.SpecificationLines.{Line, line_words}
use Rattle.lt_entry.specs.Conditions.{fits}
use Rattle.lt_entry.specs.Specifications.{words_in, all_fit}

-- The line that words say behind these lines, if they say one that fits.
abbrev pub IsNext : Program → List Row → (lines : List Line) → (words : List (List ℕ)) → Option Line → Type 0
IsNext program rows lines words None = (line : Line) → line_words line ≡ words → fits program rows lines line ≡ false
IsNext program rows lines words (Some line) = (line_words line ≡ words) × (fits program rows lines line ≡ true)

-- These lines are the first rows, each in its place.
pub record AreFirst (program : Program) (rows : List Row) (lines : List Line) : Type 0 where
  pub written : words_in (take (length lines) rows) ≡ map line_words lines
  pub fit : all_fit program rows [] lines ≡ true

-- No further line is in its place behind these.
abbrev pub AreLongest : Program → List Row → List Line → Type 0
AreLongest program rows lines = (line : Line) → AreFirst program rows (lines ++ line ∷ []) → ⊥
