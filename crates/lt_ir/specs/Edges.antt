-- The edges of graph code, and that each turn of a loop spends a tick.
use Rattle.std.specs.Prelude.{◌≡◌, ℕ, ◌≤◌, List, [], ◌∷◌, ◌++◌, map, Bool, true, false, ◌||◌, Option, Some, slice_get}
use Rattle.lt_ir.specs.declared.code.Code.{Code}
use Rattle.lt_ir.specs.declared.node.Node.{Node}
use Rattle.lt_ir.specs.declared.node.Node.TheVariants as node

-- the nodes that may follow a node: a branch's true side first; the cases of a switch in their order, then its default
abbrev pub successors : Node → List ℕ
successors (node.Constant to c is_kept next) = next ∷ []
successors (node.Address to v next) = next ∷ []
successors (node.Load to from ty tracks next) = next ∷ []
successors (node.Store place value gives ty tracks next) = next ∷ []
successors (node.Move to pointer by next) = next ∷ []
successors (node.Subtract to left right size next) = next ∷ []
successors (node.Apply to left right op ty next) = next ∷ []
successors (node.Convert to from how next) = next ∷ []
successors (node.Compare to left right op next) = next ∷ []
successors (node.Copy place from shape tracks next) = next ∷ []
successors (node.Create k is_zeroed next) = next ∷ []
successors (node.Seal v next) = next ∷ []
successors (node.End v next) = next ∷ []
successors (node.Branch test on off) = on ∷ off ∷ []
successors (node.Switch value arms table default) = map (λ arm. arm.next) arms ++ default ∷ []
successors (node.Call function to first count next) = next ∷ []
successors (node.Stub stub to next) = next ∷ []
successors node.Stop = []
successors (node.Return value) = []
successors (node.Tick next) = next ∷ []
successors (node.Mark label predicate bound next) = next ∷ []
successors (node.Clash parts next) = next ∷ []

-- an edge of a code
pub record HasEdge (code : Code) (from to : ℕ) : Type 0 where
  pub node : Node
  pub stands : slice_get code.nodes from ≡ Some node
  pub which : ℕ
  pub leads : slice_get (successors node) which ≡ Some to

abbrev pub is_tick : Option Node → Bool
is_tick (Some (node.Tick next)) = true
is_tick _ = false

-- whether a tick stands at a point
abbrev pub is_tick_at : Code → ℕ → Bool
is_tick_at code point = is_tick (slice_get code.nodes point)

-- An edge to a point of no greater number leads from a tick or to one, so that each turn of a loop spends one.
abbrev pub TurnByTicks : List Code → Type 0
TurnByTicks codes =
    (f from to : ℕ) (code : Code) → slice_get codes f ≡ Some code → HasEdge code from to → to ≤ from
    → (is_tick_at code from || is_tick_at code to) ≡ true
