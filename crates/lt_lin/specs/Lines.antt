-- Lines without their containers.
use Rattle.std.specs.Prelude.{ℕ, ℤ, List, [], ◌∷◌}
use Rattle.lt_lin.specs.Terms.{Term}
use Rattle.lt_lin.specs.declared.line.Line.{Line, Combine, Divide, Split', Row_of-Line, end_of-Line, more_of-Line}

-- A list of lines: its end, or a line and the lines after it. A combination has pairs of a row's number and a
-- multiplier, a division a row's number and a divisor, a split its terms, its bound and the lines of its two sides.
pub data Lines : Type 0 where
  last : Lines
  combination : List (ℕ × ℤ) → Lines → Lines
  division : ℕ → ℤ → Lines → Lines
  split : List Term → ℤ → Lines → Lines → Lines → Lines

abbrev mutual
  -- a line before the lines after it
  pub before_lines : Line → Lines → Lines
  before_lines (Combine pairs) rest = combination pairs.items rest
  before_lines (Divide row divisor) rest = division row divisor rest
  before_lines (Split' terms bound m low n high) rest = split terms bound (side_lines low) (side_lines high) rest

  pub side_lines : {m : _} → Row_of-Line m → Lines
  side_lines end_of-Line = last
  side_lines (more_of-Line l rest) = before_lines l (side_lines rest)

abbrev pub lines_of : List Line → Lines
lines_of [] = last
lines_of (l ∷ ls) = before_lines l (lines_of ls)
