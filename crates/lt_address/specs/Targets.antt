-- Lists of targets: an abstract block each, and the offsets at which an address may lie in it.
use Rattle.std.specs.Prelude.{◌≡◌, ℕ, suc, ℤ, ◌≤◌, ◌⊎◌, List, [], ◌∷◌, Option}
use Rattle.std.specs.Option.{MatchOption}
use Rattle.std.specs.Coded.{×_prop, Unit-prop, le_prop}
use Rattle.lt_value.specs.declared.num.Num.{Num}
use Rattle.lt_value.specs.Num.{Holds}
use Rattle.lt_address.specs.declared.target.Target.{Target}

-- the blocks ascend, from the least on
abbrev pub IsAscendingFrom : ℕ → List Target → Type 0
IsAscendingFrom least [] = Unit {0}
IsAscendingFrom least (t ∷ ts) = (least ≤ t.block) × IsAscendingFrom (suc t.block) ts

abbrev pub IsAscending : List Target → Type 0
IsAscending ts = IsAscendingFrom 0 ts

-- ascending is a fact and nothing more
pub IsAscendingFrom-prop : (least : ℕ) (ts : List Target) → IsProp (IsAscendingFrom least ts)
IsAscendingFrom-prop least [] = Unit-prop
IsAscendingFrom-prop least (t ∷ ts) = ×_prop le_prop (IsAscendingFrom-prop (suc t.block) ts)

pub IsAscending-prop : (ts : List Target) → IsProp (IsAscending ts)
IsAscending-prop ts = IsAscendingFrom-prop 0 ts

-- some target is the block, with this offset
abbrev pub PointsTo : List Target → ℕ → ℤ → Type 0
PointsTo [] block offset = ⊥
PointsTo (t ∷ ts) block offset = ((t.block ≡ block) × Holds t.at offset) ⊎ PointsTo ts block offset

-- a number of a set that may be missing
abbrev pub HasNumber : Option Num → ℤ → Type 0
HasNumber n z = MatchOption n ⊥ (λ m. Holds m z)
