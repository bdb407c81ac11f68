-- Nodes whose successors are numbers in the order of emission, and the same with program points. Code is emitted
-- backwards, a successor first; the numbers are turned round when all of it is there.
use Rattle.std.specs.Prelude.{◌≡◌, ℕ, ◌+◌, ◌≤◌, ◌<◌, List, map, Bool, true, nat_lt, Option, Some, None, ◌⊎◌}
use Rattle.std.specs.List.{list_all}
use Rattle.lt_ir.specs.declared.node.Movement.{Movement}
use Rattle.lt_ir.specs.declared.node.Movement.TheVariants as movement
use Rattle.lt_ir.specs.declared.node.Parts.{Parts}
use Rattle.lt_ir.specs.declared.node.Parts.TheVariants as parts
use Rattle.lt_ir.specs.declared.node.Given.{Given}
use Rattle.lt_ir.specs.declared.node.Given.TheVariants as given
use Rattle.lt_ir.specs.declared.node.Arm.{Arm}
use Rattle.lt_ir.specs.declared.node.Node.{Node}
use Rattle.lt_ir.specs.declared.node.Node.TheVariants as node
use Rattle.lt_ir.specs.PureView.{pure_of}
use Rattle.lt_ir.specs.Edges.{successors}
use Rattle.lt_ir.specs.Tables.{IsTableOf}
use Rattle.lt_ir.specs.Ranges.{Counts, is_variable, is_access, is_lookable}

-- ---- successors

abbrev pub turned_arm : (ℕ → ℕ) → Arm → Arm
turned_arm point arm = record { value = arm.value; next = point arm.next }

-- a node with the program points of its successors
abbrev pub turned : (point : ℕ → ℕ) → Node → Node
turned point (node.Constant to c is_kept next) = node.Constant to c is_kept (point next)
turned point (node.Address to v next) = node.Address to v (point next)
turned point (node.Load to from ty tracks next) = node.Load to from ty tracks (point next)
turned point (node.Store place value gives ty tracks next) = node.Store place value gives ty tracks (point next)
turned point (node.Move to pointer by next) = node.Move to pointer by (point next)
turned point (node.Subtract to left right size next) = node.Subtract to left right size (point next)
turned point (node.Apply to left right op ty next) = node.Apply to left right op ty (point next)
turned point (node.Convert to from how next) = node.Convert to from how (point next)
turned point (node.Compare to left right op next) = node.Compare to left right op (point next)
turned point (node.Copy place from shape tracks next) = node.Copy place from shape tracks (point next)
turned point (node.Create k is_zeroed next) = node.Create k is_zeroed (point next)
turned point (node.Seal v next) = node.Seal v (point next)
turned point (node.End v next) = node.End v (point next)
turned point (node.Branch test on off) = node.Branch test (point on) (point off)
turned point (node.Switch value arms table default) =
    node.Switch value (map (turned_arm point) arms) (map (turned_arm point) table) (point default)
turned point (node.Call function to first count next) = node.Call function to first count (point next)
turned point (node.Stub stub to next) = node.Stub stub to (point next)
turned point node.Stop = node.Stop
turned point (node.Return value) = node.Return value
turned point (node.Tick next) = node.Tick (point next)
turned point (node.Mark label predicate bound next) = node.Mark label predicate bound (point next)
turned point (node.Clash which next) = node.Clash which (point next)

abbrev pub are_below : ℕ → List ℕ → Bool
are_below n points = list_all (λ point. nat_lt point n) points

-- each successor is among the first nodes
abbrev pub LeadsBelow : ℕ → Node → Type 0
LeadsBelow n it = are_below n (successors it) ≡ true

-- ---- registers

abbrev pub movement_uses : ℕ → Movement → Type 0
movement_uses n (movement.Elements count op size) = count < n
movement_uses n (movement.Member offset) = Unit {0}

abbrev pub parts_use : ℕ → Parts → Type 0
parts_use n (parts.Unsequenced left right) = (left < n) × (right < n)
parts_use n (parts.Sequenced left right) = (left < n) × (right < n)
parts_use n (parts.Settled register) = register < n
parts_use n (parts.Read register it) = register < n
parts_use n (parts.Target register it) = register < n

abbrev pub given_uses : ℕ → Given → Type 0
given_uses n given.Nothing = Unit {0}
given_uses n (given.Fixed c) = Unit {0}
given_uses n (given.Held register) = register < n

abbrev pub target_uses : ℕ → Option ℕ → Type 0
target_uses n None = Unit {0}
target_uses n (Some register) = register < n

-- each register of a node is among the first
abbrev pub UsesBelow : ℕ → Node → Type 0
UsesBelow n (node.Constant to c is_kept next) = to < n
UsesBelow n (node.Address to v next) = to < n
UsesBelow n (node.Load to from ty tracks next) = (to < n) × (from < n)
UsesBelow n (node.Store place value gives ty tracks next) = (place < n) × (value < n) × (gives < n)
UsesBelow n (node.Move to pointer by next) = (to < n) × (pointer < n) × movement_uses n by
UsesBelow n (node.Subtract to left right size next) = (to < n) × (left < n) × (right < n)
UsesBelow n (node.Apply to left right op ty next) = (to < n) × (left < n) × (right < n)
UsesBelow n (node.Convert to from how next) = (to < n) × (from < n)
UsesBelow n (node.Compare to left right op next) = (to < n) × (left < n) × (right < n)
UsesBelow n (node.Copy place from shape tracks next) = (place < n) × (from < n)
UsesBelow n (node.Create k is_zeroed next) = Unit {0}
UsesBelow n (node.Seal v next) = Unit {0}
UsesBelow n (node.End v next) = Unit {0}
UsesBelow n (node.Branch test on off) = test < n
UsesBelow n (node.Switch value arms table default) = value < n
UsesBelow n (node.Call function to first count next) = target_uses n to × (first + count ≤ n)
UsesBelow n (node.Stub stub to next) = to < n
UsesBelow n node.Stop = Unit {0}
UsesBelow n (node.Return value) = given_uses n value
UsesBelow n (node.Tick next) = Unit {0}
UsesBelow n (node.Mark label predicate bound next) = Unit {0}
UsesBelow n (node.Clash which next) = parts_use n which

-- ---- what else nodes name

abbrev pub parts_name : Counts → Parts → Type 0
parts_name n (parts.Read register it) = is_access n it ≡ true
parts_name n (parts.Target register it) = is_access n it ≡ true
parts_name n (parts.Unsequenced left right) = Unit {0}
parts_name n (parts.Sequenced left right) = Unit {0}
parts_name n (parts.Settled register) = Unit {0}

-- Each variable, shape, label, stub and function of a node is there, and a switch has the table of its arms.
abbrev pub NamesIn : Counts → Node → Type 0
NamesIn n (node.Constant to c is_kept next) = Unit {0}
NamesIn n (node.Address to v next) = is_variable n v ≡ true
NamesIn n (node.Load to from ty tracks next) = Unit {0}
NamesIn n (node.Store place value gives ty tracks next) = Unit {0}
NamesIn n (node.Move to pointer by next) = Unit {0}
NamesIn n (node.Subtract to left right size next) = Unit {0}
NamesIn n (node.Apply to left right op ty next) = Unit {0}
NamesIn n (node.Convert to from how next) = Unit {0}
NamesIn n (node.Compare to left right op next) = Unit {0}
NamesIn n (node.Copy place from shape tracks next) = shape < n.structs
NamesIn n (node.Create k is_zeroed next) = k < n.locals
NamesIn n (node.Seal v next) = is_variable n v ≡ true
NamesIn n (node.End v next) = is_variable n v ≡ true
NamesIn n (node.Branch test on off) = Unit {0}
NamesIn n (node.Switch value arms table default) = IsTableOf table arms
NamesIn n (node.Call function to first count next) = function < n.functions
NamesIn n (node.Stub stub to next) = stub < n.stubs
NamesIn n node.Stop = Unit {0}
NamesIn n (node.Return value) = Unit {0}
NamesIn n (node.Tick next) = Unit {0}
NamesIn n (node.Mark label predicate bound next) =
    (label < n.labels) × (is_lookable n (pure_of predicate) ≡ true)
    × (list_all (λ q. is_lookable n (pure_of q)) bound ≡ true)
NamesIn n (node.Clash which next) = parts_name n which

-- ---- nodes that are sound

-- a tick that leads to a node that is there
abbrev pub IsTickWithin : ℕ → Node → Type 0
IsTickWithin count it = (to : ℕ) × (it ≡ node.Tick to) × (to < count)

-- A node leads to those that were emitted before it, or it is a tick; and all that it names is there.
pub record IsSoundNode (n : Counts) (e : ℕ) (it : Node) : Type 0 where
  pub leads : LeadsBelow e it ⊎ IsTickWithin n.nodes it
  pub uses : UsesBelow n.registers it
  pub names : NamesIn n it
