-- How large lowered code is, which program points its edges lead to, and which of its nodes are calls: what a lowering
-- is to keep, beside that its graph has the program's code.
use Rattle.std.specs.Prelude.{◌≡◌, ℕ, ◌+◌, ◌*◌, ◌≤◌, ◌<◌, List, length, Option, Some, None}
use Rattle.std.specs.Prelude.{slice_get}
use Rattle.lt_tree.specs.Tree.{External}
use Rattle.lt_tree.specs.Typing.Entities.{Function}
use Rattle.lt_tree.specs.Typing.Programs.{Program}
use Rattle.lt_tree.specs.Typing.UnitTyping.{IsProgramOf}
use Rattle.lt_ir.specs.declared.code.Code.{Code}
use Rattle.lt_ir.specs.declared.graph.Graph.{Graph}
use Rattle.lt_ir.specs.declared.node.Node.{Node}
use Rattle.lt_ir.specs.declared.node.Node.TheVariants as node
pub use Rattle.lt_ir.specs.Edges.{successors, HasEdge}
use Rattle.lt_code.specs.Sizes.{Size, definitions, size_of}

-- the function that a node calls
abbrev pub callee : Node → Option ℕ
callee (node.Call function to first count next) = Some function
callee n = None

-- a call of a function in a code
pub record HasCall (code : Code) (at function : ℕ) : Type 0 where
  pub node : Node
  pub stands : slice_get code.nodes at ≡ Some node
  pub calls : callee node ≡ Some function

-- the calls in a code are among others, each used once
pub record AreCallsAmong (code : Code) (calls : List ℕ) : Type 0 where
  pub place : ℕ → ℕ
  pub there : (i f : ℕ) → HasCall code i f → slice_get calls (place i) ≡ Some f
  pub once : (i j f g : ℕ) → HasCall code i f → HasCall code j g → place i ≡ place j → i ≡ j

abbrev pub IsAmong : ℕ → List ℕ → Type 0
IsAmong n ns = (k : ℕ) × (slice_get ns k ≡ Some n)

-- the points that edges from no lesser point lead to are so many at most
pub record HasLoopHeads (code : Code) (most : ℕ) : Type 0 where
  pub heads : List ℕ
  pub few : length heads ≤ most
  pub each : (from to : ℕ) → HasEdge code from to → to ≤ from → IsAmong to heads

pub record IsBounded (size : Size) (code : Code) : Type 0 where
  pub nodes : length code.nodes ≤ 8 * size.nodes + 8 + 8 * size.letters
  pub registers : code.registers ≤ 4 * size.largest
  pub calls : AreCallsAmong code size.calls
  -- the start has the least number, and no edge leads to it
  pub start : code.start ≡ 0
  pub entered_once : (from to : ℕ) → HasEdge code from to → code.start < to
  pub heads : HasLoopHeads code size.loops

-- Each code of a graph is bounded by its function's definition in the unit, of which the program is the typed program.
abbrev pub IsBoundedBy : Program → Graph → Type 0
IsBoundedBy program graph =
    IsProgramOf program.model program.unit program
    → (k : ℕ) (definition : External) (f : Function) (code : Code)
    → slice_get (definitions program.unit) k ≡ Some definition
    → slice_get program.functions k ≡ Some f
    → slice_get graph.codes k ≡ Some code → IsBounded (size_of program.functions definition f) code
