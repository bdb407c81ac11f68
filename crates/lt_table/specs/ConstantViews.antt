-- Constants, as the code holds them.
use Rattle.std.specs.Prelude.{◌≡◌, ℕ, ℤ}
use Rattle.lt_tree.specs.Typing.Constants as typing
use Rattle.lt_tree.specs.Typing.Constants.{Constancy, number, address}
use Rattle.lt_table.specs.declared.constants.literals.TypedConstant.{TypedConstant}

abbrev pub constant_in : TypedConstant → typing.TypedConstant
constant_in c = record { type = c.ty; value = c.value }

-- a fact of the value, where a constancy is an integer constant expression
abbrev pub IfNumber : Constancy → (ℤ → Type 0) → Type 0
IfNumber (number z) P = P z
IfNumber _ P = Unit {0}

-- the object of an address has this size
abbrev pub IsExtent : (ℕ → ℕ) → ℕ → Constancy → Type 0
IsExtent sizes extent (address object offset) = sizes object ≡ extent
IsExtent sizes extent _ = Unit {0}
