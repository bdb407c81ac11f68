-- What a `Num` stands for.
use Rattle.std.specs.Prelude.{ℤ, ℕ, pos, ◌-ℤ◌, ◌≡◌, ◌≤◌, ◌↔◌}
use Rattle.std.specs.Int.{◌∣◌}
use Rattle.lt_value.specs.declared.num.Num.{Num}
use Rattle.lt_value.specs.Progression.{Lies}

abbrev pub Holds : Num → ℤ → Type 0
Holds n z = Lies n.lo n.hi n.step n.rest z

-- each member of m is one of n
abbrev pub IsBelow : Num → Num → Type 0
IsBelow m n = (z : ℤ) → Holds m z → Holds n z

-- n has the members of both
abbrev pub IsMeet : Num → Num → Num → Type 0
IsMeet a b n = (z : ℤ) → Holds n z ↔ (Holds a z × Holds b z)

abbrev pub AreApart : Num → Num → Type 0
AreApart a b = (z : ℤ) → Holds a z → Holds b z → ⊥

-- z is lo and a multiple of the step, within the room
abbrev pub IsAlong : ℤ → ℕ → ℕ → ℤ → Type 0
IsAlong lo step room z = (y : ℕ) × (pos y ≡ z -ℤ lo) × (y ≤ room) × (step ∣ y)

abbrev pub IsRun : ℤ → ℕ → ℕ → Num → Type 0
IsRun lo step room n = (z : ℤ) → Holds n z ↔ IsAlong lo step room z

-- n holds the numbers of a set, and each `Num` that holds them has all members of n
pub record IsLeast (set : ℤ → Type 0) (n : Num) : Type 0 where
  pub holds : (z : ℤ) → set z → Holds n z
  pub least : (m : Num) → ((z : ℤ) → set z → Holds m z) → IsBelow n m

-- n holds the numbers of a set and no other
abbrev pub IsExactly : (ℤ → Type 0) → Num → Type 0
IsExactly set n = (z : ℤ) → Holds n z ↔ set z

abbrev pub IsEmpty : (ℤ → Type 0) → Type 0
IsEmpty set = (z : ℤ) → set z → ⊥
