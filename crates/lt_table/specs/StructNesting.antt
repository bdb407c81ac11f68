-- Structs that were completed one behind another: each holds only structs that were complete before it.
use Rattle.std.specs.Prelude.{◌≡◌, ℕ, zero, suc, List, [], ◌∷◌, Some, is_some, if◌then◌else◌}
use Rattle.lt_tree.specs.Typing.Types.{CType, Array, Struct, Qualified}
use Rattle.lt_tree.specs.Typing.Extents.{Member, Structs, members_of}

-- it is so of the struct that an object of the type holds, if any; what stands behind a pointer isn't held
abbrev pub HoldsOnly : (ℕ → Type 0) → CType → Type 0
HoldsOnly Is (Struct k) = Is k
HoldsOnly Is (Array t n) = HoldsOnly Is t
HoldsOnly Is (Qualified q t) = HoldsOnly Is t
HoldsOnly Is t = Unit {0}

abbrev pub AllHoldOnly : (ℕ → Type 0) → List Member → Type 0
AllHoldOnly Is [] = Unit {0}
AllHoldOnly Is (member ∷ members) = HoldsOnly Is member.type × AllHoldOnly Is members

-- the struct is complete, as are those that it holds, and they nest no deeper than this
unfoldable pub Nests : Structs → ℕ → ℕ → Type 0
Nests structs zero k = ⊥
Nests structs (suc depth) k = (members : List Member) × ((members_of structs k ≡ Some members) × AllHoldOnly (Nests structs depth) members)

-- how many structs are complete
abbrev pub completed : Structs → ℕ
completed [] = 0
completed (it ∷ structs) = if is_some it.members then suc (completed structs) else completed structs

-- complete structs nest no deeper than there are complete structs
abbrev pub AreNested : Structs → Type 0
AreNested structs = (k : ℕ) (members : List Member) → members_of structs k ≡ Some members → Nests structs (completed structs) k
