-- What is prepared once for a machine: arms of a switch have a table, in which they are found by value; values for
-- functions without a body stand at places; registers begin blank.
use Rattle.std.specs.Prelude.{◌≡◌, ℕ, suc, ℤ, List, [], ◌∷◌, Option, Some, None, option_map}
use Rattle.std.specs.Prelude.{if◌then◌else◌, slice_get, slice_set}
use Rattle.std.specs.Ordering.{int_cmp}
use Rattle.std.specs.declared.cmp.Ordering.TheVariants.{Less, Equal, Greater}
use Rattle.std.specs.Str.{bytes_eq}
use Rattle.lt_model.specs.State.{Left}
use Rattle.lt_ir.specs.declared.node.Arm.{Arm}
use Rattle.lt_ir.specs.Running.{next_value}
use Rattle.lt_ir.specs.Tables.{arm_of, IsAscending, IsTableOf}
use Rattle.lt_ir.specs.Graph.{blank, blanks, register_at}

-- ---- the arms of a switch, by value

-- an arm comes into a table, in place of one of the same value
abbrev pub put_arm : Arm → List Arm → List Arm
put_arm arm [] = arm ∷ []
put_arm arm (it ∷ table) =
    elim (int_cmp arm.value it.value) [
      | Less ↦ arm ∷ it ∷ table
      | Equal ↦ arm ∷ table
      | Greater ↦ it ∷ put_arm arm table
    ]

-- the last arm comes first, so that of arms of one value the first stays
abbrev pub table_of : List Arm → List Arm
table_of [] = []
table_of (arm ∷ arms) = put_arm arm (table_of arms)

-- In an ascending table an arm is found by its value, wherever it stands.
abbrev pub AreFoundByValue : List Arm → Type 0
AreFoundByValue table =
    (k default : ℕ) (arm : Arm) → slice_get table k ≡ Some arm → arm_of table default arm.value ≡ arm.next

-- a value that no arm has finds none
abbrev pub OthersFindNone : List Arm → Type 0
OthersFindNone table =
    (default : ℕ) (z : ℤ) → ((k : ℕ) (arm : Arm) → slice_get table k ≡ Some arm → ¬ arm.value ≡ z)
    → arm_of table default z ≡ default

abbrev pub SwitchesAreTables : Type 0
SwitchesAreTables =
    ((arms : List Arm) → IsTableOf (table_of arms) arms)
    × ((table : List Arm) → IsAscending table → AreFoundByValue table × OthersFindNone table)

-- ---- values for functions without a body, by the place of the name

abbrev pub place_of : List ℕ → List Left → Option ℕ
place_of name [] = None
place_of name (left ∷ lefts) = if bytes_eq left.stub name then Some 0 else option_map suc (place_of name lefts)

abbrev pub first_of : Left → ℕ → List Left → List ℤ → Option (ℤ × List Left)
first_of left k lefts [] = None
first_of left k lefts (z ∷ zs) = Some (z, slice_set lefts k (record left { values = zs }))

abbrev pub value_of : Option Left → ℕ → List Left → Option (ℤ × List Left)
value_of None k lefts = None
value_of (Some left) k lefts = first_of left k lefts left.values

-- the next value at a place, and what is left then
abbrev pub value_at : Option ℕ → List Left → Option (ℤ × List Left)
value_at None lefts = None
value_at (Some k) lefts = value_of (slice_get lefts k) k lefts

-- A name keeps its place, whatever values are taken.
abbrev pub StubsHavePlaces : Type 0
StubsHavePlaces =
    ((name : List ℕ) (lefts : List Left) → next_value name lefts ≡ value_at (place_of name lefts) lefts)
    × ((name other : List ℕ) (lefts rest : List Left) (z : ℤ) → next_value name lefts ≡ Some (z, rest)
    → place_of other rest ≡ place_of other lefts)

-- ---- registers, by their number

-- The registers that a call begins with are as registers that aren't there.
abbrev pub RegistersBeginBlank : Type 0
RegistersBeginBlank = (n r : ℕ) → register_at (blanks n) r ≡ blank
