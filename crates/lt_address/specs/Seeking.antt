-- Values part by part: lists of targets, sets that may be missing, and marks.
use Rattle.std.specs.Prelude.{◌≡◌, ℕ, suc, ℤ, ◌<◌, ◌≤◌, ◌⊎◌, ◌↔◌, List, [], ◌∷◌, IsTrue, Option, Some, None}
use Rattle.lt_value.specs.declared.num.Num.{Num}
use Rattle.lt_address.specs.declared.target.Target.{Target}
use Rattle.lt_address.specs.declared.value.Value.{Value}
use Rattle.lt_address.specs.Targets.{IsAscendingFrom, IsAscending, PointsTo, HasNumber}

-- The offsets in the block are those of n, and the rest has the targets of greater blocks.
pub record IsSought (ts : List Target) (block : ℕ) (n : Option Num) (rest : List Target) : Type 0 where
  pub here : (z : ℤ) → HasNumber n z ↔ PointsTo ts block z
  pub beyond : (b : ℕ) (z : ℤ) → block < b → PointsTo rest b z ↔ PointsTo ts b z
  pub ascending : IsAscendingFrom (suc block) rest

abbrev pub BeginsWith : List Target → ℕ → Type 0
BeginsWith [] block = ⊥
BeginsWith (t ∷ ts) block = t.block ≡ block

-- no target of an ascending list has a lesser block
abbrev pub StartsFrom : ℕ → List Target → Type 0
StartsFrom block [] = Unit {0}
StartsFrom block (t ∷ ts) = block ≤ t.block

-- one of two lists begins with the block, and neither with a lesser one; or both lists are empty
abbrev pub IsFirstBlock : List Target → List Target → Option ℕ → Type 0
IsFirstBlock left right None = (left ≡ []) × (right ≡ [])
IsFirstBlock left right (Some block) = StartsFrom block left × StartsFrom block right × (BeginsWith left block ⊎ BeginsWith right block)

-- ---- two lists
abbrev pub IsWithin : List Target → List Target → Type 0
IsWithin a b = (block : ℕ) (z : ℤ) → PointsTo a block z → PointsTo b block z

-- c points to all that a or b points to, and each list that does points to all that c points to
pub record IsJoinTargets (a b c : List Target) : Type 0 where
  pub left : IsWithin a c
  pub right : IsWithin b c
  pub least : (d : List Target) → IsAscending d → IsWithin a d → IsWithin b d → IsWithin c d

-- ---- two sets that may be missing
abbrev pub IsAmong : Option Num → Option Num → Type 0
IsAmong m n = (z : ℤ) → HasNumber m z → HasNumber n z

pub record IsJoinNumbers (m n o : Option Num) : Type 0 where
  pub left : IsAmong m o
  pub right : IsAmong n o
  pub least : (p : Option Num) → IsAmong m p → IsAmong n p → IsAmong o p

-- a target with these offsets, where there are some
abbrev pub target_at : ℕ → Option Num → List Target
target_at block None = []
target_at block (Some n) = record { block = block; at = n } ∷ []

-- ---- marks
abbrev pub AreMarksBelow : Value → Value → Type 0
AreMarksBelow a b = (IsTrue a.null → IsTrue b.null) × (IsTrue a.ended → IsTrue b.ended) × (IsTrue a.unset → IsTrue b.unset)
