-- What one line does, and what a list of lines does.
use Rattle.std.specs.Prelude.{◌≡◌, ℕ, ◌≤◌, ◌↔◌, IsTrue, Bool, List, ◌++◌, Option, Some, None, Result, IsOk, IfOk, OnOk}
use Rattle.std.specs.declared.alloc.AllocError.{AllocError}
use Rattle.lt_lin.specs.declared.row.Row.{Row}
use Rattle.lt_lin.specs.declared.lines.Seen.{Seen}
use Rattle.lt_lin.specs.Rows.{HasContradiction}
use Rattle.lt_lin.specs.Lines.{Lines}
use Rattle.lt_lin.specs.Refutation.{RefutesAfter, Refutes}
use Rattle.lt_lin.specs.Room.{HasPlaces}

-- Before the line n places are enough where they are after it.
abbrev pub Leaves : (Lines → Lines) → ℕ → List Row → Option Seen → List Row → Type 0
Leaves line limit known None after = (rest : Lines) → HasPlaces limit known (line rest)
Leaves line limit known (Some more) after =
    (n : ℕ) (rest : Lines) → limit ≤ n → HasPlaces n after rest → HasPlaces n known (line rest)

abbrev pub Finds : ℕ → Option Seen → List Row → Lines → Type 0
Finds limit None after rest = Unit {0}
Finds limit (Some more) after rest = HasPlaces limit after rest

-- The rows that were known come first among those that are.
abbrev pub Extends : List Row → List Row → Type 0
Extends known after = (more : List Row) × (after ≡ known ++ more)

-- With the line before them, the lines that follow refute what is known exactly where by themselves they refute what is
-- known after it; where the line is not valid, they do not.
abbrev pub Takes : (Lines → Lines) → Seen → List Row → Option Seen → List Row → Type 0
Takes line seen known None after = (rest : Lines) → RefutesAfter seen.split known (line rest) → ⊥
Takes line seen known (Some more) after =
    ((rest : Lines) → (RefutesAfter more.split after rest ↔ RefutesAfter seen.split known (line rest)))
    × (IsTrue more.contradiction ↔ HasContradiction after)

-- A line was taken; limits say for how many places there is room.
pub record IsTaken (line : Lines → Lines) (seen : Seen) (known : List Row) (limit : ℕ) (result : Result (Option Seen) AllocError) (after : List Row) (limit_after : ℕ) : Type 0 where
  pub answer : IfOk result (λ o. Takes line seen known o after)
  pub rows : OnOk result (Extends known after)
  pub grows : limit ≤ limit_after
  pub room : IfOk result (λ o. Leaves line limit_after known o after)
  pub enough : (rest : Lines) → HasPlaces limit known (line rest) → IsOk result × (limit_after ≡ limit) × IfOk result (λ o. Finds limit o after rest)

-- A list of lines was followed to its end or to a line that is not valid.
pub record IsFollowed (lines : Lines) (known : List Row) (limit : ℕ) (result : Result Bool AllocError) (after : List Row) (limit_after : ℕ) : Type 0 where
  pub answer : IfOk result (λ b. IsTrue b ↔ Refutes known lines)
  pub rows : OnOk result (Extends known after)
  pub grows : limit ≤ limit_after
  pub room : OnOk result (HasPlaces limit_after known lines)
  pub enough : HasPlaces limit known lines → IsOk result × (limit_after ≡ limit)
