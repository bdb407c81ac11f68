-- Code that is all emitted, with its nodes turned round: the last that was emitted is the first.
use Rattle.std.specs.Prelude.{◌≡◌, ℕ, ◌-◌, List, length, map, reverse, Some, slice_get}
use Rattle.lt_ir.specs.declared.node.Arm.{Arm}
use Rattle.lt_ir.specs.declared.node.Node.{Node}
use Rattle.lt_ir.specs.declared.node.Node.TheVariants as node
use Rattle.lt_emit.specs.Turning.{turned}

-- the program point of a node, where the last has this number
abbrev pub point_of : (last : ℕ) → ℕ → ℕ
point_of last e = last - e

-- the last node first, each with the points of its successors
abbrev pub turned_round : (last : ℕ) → List Node → List Node
turned_round last nodes = map (turned (point_of last)) (reverse nodes)

-- Each node stands at its point, with the points of its successors.
pub record AreTurned (last : ℕ) (before after : List Node) : Type 0 where
  pub same : length after ≡ length before
  pub each : (e : ℕ) (it : Node) → slice_get before e ≡ Some it → slice_get after (last - e) ≡ Some (turned (point_of last) it)

-- its successors aren't arms
abbrev pub IsNoSwitch : Node → Type 0
IsNoSwitch it = (value default : ℕ) (arms table : List Arm) → it ≡ node.Switch value arms table default → ⊥
