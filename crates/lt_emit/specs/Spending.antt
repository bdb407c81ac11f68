-- What emitted code costs at most: its nodes, its registers, the points that loops lead back to, and the functions that it calls.
use Rattle.std.specs.Prelude.{ℕ, suc, ◌+◌, ◌≤◌, max, List, [], ◌∷◌, ◌++◌, length, not, nat_lt, Option, None, Some}
use Rattle.std.specs.List.{filter}
use Rattle.std.specs.Option.{option_to_list}
use Rattle.lt_ir.specs.declared.node.Movement.{Movement}
use Rattle.lt_ir.specs.declared.node.Movement.TheVariants as movement
use Rattle.lt_ir.specs.declared.node.Parts.{Parts}
use Rattle.lt_ir.specs.declared.node.Parts.TheVariants as parts
use Rattle.lt_ir.specs.declared.node.Given.{Given}
use Rattle.lt_ir.specs.declared.node.Given.TheVariants as given
use Rattle.lt_ir.specs.declared.node.Node.{Node}
use Rattle.lt_ir.specs.declared.node.Node.TheVariants as node
use Rattle.lt_ir.specs.Edges.{successors}
use Rattle.lt_code.specs.Bounds.{callee}
use Rattle.lt_code.specs.Costs.{Cost, callees, times}
use Rattle.lt_emit.specs.declared.builder.Builder.{Builder}

-- ---- registers: as many as there are up to the last that is named

abbrev pub movement_needs : Movement → ℕ
movement_needs (movement.Elements count op size) = count + 1
movement_needs (movement.Member offset) = 0

abbrev pub parts_need : Parts → ℕ
parts_need (parts.Unsequenced left right) = max left right + 1
parts_need (parts.Sequenced left right) = max left right + 1
parts_need (parts.Settled register) = register + 1
parts_need (parts.Read register it) = register + 1
parts_need (parts.Target register it) = register + 1

abbrev pub given_needs : Given → ℕ
given_needs given.Nothing = 0
given_needs (given.Fixed c) = 0
given_needs (given.Held register) = register + 1

abbrev pub call_needs : Option ℕ → (first count : ℕ) → ℕ
call_needs None first count = first + count
call_needs (Some register) first count = max (register + 1) (first + count)

abbrev pub needs : Node → ℕ
needs (node.Constant to c is_kept next) = to + 1
needs (node.Address to v next) = to + 1
needs (node.Load to from ty tracks next) = max to from + 1
needs (node.Store place value gives ty tracks next) = max (max place value) gives + 1
needs (node.Move to pointer by next) = max (max to pointer + 1) (movement_needs by)
needs (node.Subtract to left right size next) = max (max to left) right + 1
needs (node.Apply to left right op ty next) = max (max to left) right + 1
needs (node.Convert to from how next) = max to from + 1
needs (node.Compare to left right op next) = max (max to left) right + 1
needs (node.Copy place from shape tracks next) = max place from + 1
needs (node.Create k is_zeroed next) = 0
needs (node.Seal v next) = 0
needs (node.End v next) = 0
needs (node.Branch test on off) = test + 1
needs (node.Switch value arms table default) = value + 1
needs (node.Call function to first count next) = call_needs to first count
needs (node.Stub stub to next) = to + 1
needs node.Stop = 0
needs (node.Return value) = given_needs value
needs (node.Tick next) = 0
needs (node.Mark label predicate bound next) = 0
needs (node.Clash which next) = parts_need which

-- ---- loops

-- where the node of this number leads that wasn't emitted before it
abbrev pub back_to : (e : ℕ) → Node → List ℕ
back_to e it = filter (λ to. not (nat_lt to e)) (successors it)

-- the same of nodes of which the first has this number
abbrev pub loop_heads : (e : ℕ) → List Node → List ℕ
loop_heads e [] = []
loop_heads e (it ∷ nodes) = back_to e it ++ loop_heads (suc e) nodes

-- ---- costs

-- how often a function is called in a list of calls
unfoldable pub called : (function : ℕ) → List ℕ → ℕ
called function calls = times function calls

-- One cost is no more than another: no function is called more often.
pub record IsWithin (cost most : Cost) : Type 0 where
  pub nodes : cost.nodes ≤ most.nodes
  pub registers : cost.registers ≤ most.registers
  pub loops : cost.loops ≤ most.loops
  pub calls : (function : ℕ) → called function cost.calls ≤ called function most.calls

-- What was added costs no more than this.
pub record Spends (cost : Cost) (before after : Builder) : Type 0 where
  pub nodes : length after.nodes.items ≤ length before.nodes.items + cost.nodes
  pub registers : after.registers ≤ max before.registers cost.registers
  pub loops : length (loop_heads 0 after.nodes.items) ≤ length (loop_heads 0 before.nodes.items) + cost.loops
  pub calls : (function : ℕ)
      → called function (callees after.nodes.items) ≤ called function (callees before.nodes.items) + called function cost.calls

-- a piece without loops and calls
abbrev pub piece : (nodes registers : ℕ) → Cost
piece nodes registers = record { nodes = nodes; registers = registers; loops = 0; calls = [] }

-- a node
abbrev pub of_node : Node → Cost
of_node it = record { nodes = 1; registers = needs it; loops = 0; calls = option_to_list (callee it) }
