-- The tables of switches: which node follows at a number, and a table in which it is found as in the list of the text.
use Rattle.std.specs.Prelude.{◌≡◌, ℕ, ℤ, ◌≤◌, ◌<◌, ◌<ℤ◌, List, [], ◌∷◌, length, Some, if◌then◌else◌, slice_get}
use Rattle.std.specs.Ordering.{int_eq}
use Rattle.lt_ir.specs.declared.code.Code.{Code}
use Rattle.lt_ir.specs.declared.node.Arm.{Arm}
use Rattle.lt_ir.specs.declared.node.Node.TheVariants.{Switch}

-- the node that follows at a number: that of the first arm with this value
abbrev pub arm_of : List Arm → ℕ → ℤ → ℕ
arm_of [] default z = default
arm_of (arm ∷ arms) default z = if int_eq arm.value z then arm.next else arm_of arms default z

-- each value is greater than those before it, so that none comes twice
abbrev pub IsAscending : List Arm → Type 0
IsAscending table =
    (i j : ℕ) (arm other : Arm) → i < j → slice_get table i ≡ Some arm → slice_get table j ≡ Some other
    → arm.value <ℤ other.value

-- a table by value, no longer than the list, in which each number finds what it finds there
abbrev pub IsTableOf : (table arms : List Arm) → Type 0
IsTableOf table arms =
    IsAscending table × (length table ≤ length arms)
    × ((default : ℕ) (z : ℤ) → arm_of table default z ≡ arm_of arms default z)

-- each switch has the table of its arms
abbrev pub HaveTables : List Code → Type 0
HaveTables codes =
    (f i value default : ℕ) (arms table : List Arm) (code : Code) → slice_get codes f ≡ Some code
    → slice_get code.nodes i ≡ Some (Switch value arms table default) → IsTableOf table arms
