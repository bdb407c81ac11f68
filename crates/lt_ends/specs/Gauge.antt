-- How far a run of a graph is from its end, as a number that each step lowers. Without a tick an active call goes up the
-- numbers of its code or comes to a tick, so that it has only so many steps before the next one.
use Rattle.std.specs.Prelude.{◌≡◌, ℕ, zero, suc, ◌+◌, ◌-◌, ◌*◌, ◌<◌, ◌≤◌, List, [], ◌∷◌, length, map, sum_by, if◌then◌else◌, slice_get, Option}
use Rattle.lt_model.specs.declared.input.Input.{Input}
use Rattle.lt_ir.specs.declared.code.Code.{Code}
use Rattle.lt_ir.specs.declared.graph.Graph.{Graph}
use Rattle.lt_ir.specs.Edges.{is_tick}
use Rattle.lt_ir.specs.Running.{Over, most_calls}
use Rattle.lt_ir.specs.Graph.{State, Frame, Goes, step, Runs, code_at, nodes_of}

-- how many steps a place of a code is from a tick at most, the tick's included
abbrev pub rest_of : Option Code → (place : ℕ) → ℕ
rest_of code place =
    if is_tick (slice_get (nodes_of code) place) then 1 else (length (nodes_of code) - place) + 1

-- more than every rest
abbrev pub breadth : Graph → ℕ
breadth g = sum_by (λ code. length code.nodes) g.codes + 2

abbrev pub rests : Graph → List Frame → List ℕ
rests g frames = map (λ frame. rest_of (code_at g frame.code) frame.place) frames

-- the rests of the active calls as the digits of a number, the innermost call's the last, and the ticks before them
abbrev pub numeral : (breadth ticks : ℕ) → List ℕ → ℕ
numeral w ticks [] = ticks
numeral w ticks (r ∷ rs) = numeral w ticks rs * w + r

abbrev pub power : ℕ → ℕ → ℕ
power w zero = 1
power w (suc n) = w * power w n

-- the digits of the calls that may still become active are 0
abbrev pub gauge : Graph → State → ℕ
gauge g s =
    numeral (breadth g) s.at.ticks (rest_of (code_at g s.code) s.place ∷ rests g s.stack)
    * power (breadth g) (most_calls - (length s.stack + 1))

-- the active calls are counted, and no more than may be
pub record IsCounted (s : State) : Type 0 where
  pub depth : s.at.depth ≡ length s.stack + 1
  pub few : length s.stack + 1 ≤ most_calls

pub record Lowers (g : Graph) (s next : State) : Type 0 where
  pub counted : IsCounted next
  pub lower : gauge g next < gauge g s

abbrev pub StepsLowerTheGauge : Type 0
StepsLowerTheGauge = (g : Graph) (s next : State) → IsCounted s → step g s ≡ Goes next → Lowers g s next

abbrev pub RunsAreOver : Type 0
RunsAreOver = (g : Graph) (f : ℕ) (input : Input) (ticks : ℕ) → (over : Over) × Runs g f input ticks over
