-- The bounds of lowered code hold where it costs no more than its typed tree allows.
use Rattle.std.specs.Prelude.{◌≡◌, ℕ, ◌≤◌, ◌<◌, length, Some, slice_get}
use Rattle.lt_tree.specs.Typing.Entities.{Function}
use Rattle.lt_tree.specs.Typing.Programs.{Program}
use Rattle.lt_ir.specs.declared.code.Code.{Code}
use Rattle.lt_ir.specs.declared.graph.Graph.{Graph}
use Rattle.lt_code.specs.Bounds.{HasEdge, HasLoopHeads, IsBoundedBy}
use Rattle.lt_code.specs.Costs.{Cost, callees, times, of_function}

-- The code of a function costs so much at most: no function is called more often. Its start has the least number, and no edge leads to it.
pub record CostsAtMost (cost : Cost) (code : Code) : Type 0 where
  pub nodes : length code.nodes ≤ cost.nodes
  pub registers : code.registers ≤ cost.registers
  pub calls : (f : ℕ) → times f (callees code.nodes) ≤ times f cost.calls
  pub start : code.start ≡ 0
  pub entered_once : (from to : ℕ) → HasEdge code from to → code.start < to
  pub heads : HasLoopHeads code cost.loops

-- each code of a graph costs no more than its function allows
abbrev pub IsFrugal : Program → Graph → Type 0
IsFrugal program graph =
    (k : ℕ) (f : Function) (code : Code) → slice_get program.functions k ≡ Some f → slice_get graph.codes k ≡ Some code
    → CostsAtMost (of_function program.functions f) code

-- Such a graph is within the bounds that the text of the unit gives.
abbrev pub FrugalGraphsAreBounded : Type 0
FrugalGraphsAreBounded = (program : Program) (graph : Graph) → IsFrugal program graph → IsBoundedBy program graph
