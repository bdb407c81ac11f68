-- What is promised of the pieces at accesses of scalars and structs.
use Rattle.std.specs.Prelude.{◌≡◌, ℕ, ◌<◌, true, length}
use Rattle.lt_tree.specs.declared.typed.tree.Value.{Value}
use Rattle.lt_tree.specs.declared.typed.types.TypeId.{TypeId}
use Rattle.lt_tree.specs.Typing.Types.{CType, is_struct}
use Rattle.lt_tree.specs.Typing.TypeRows.{type_in}
use Rattle.lt_tree.specs.Typing.ValueView.{value_of}
use Rattle.lt_ir.specs.declared.node.Access.{Access}
use Rattle.lt_ir.specs.Ranges.{is_access}
use Rattle.lt_code.specs.Pieces.{Piece}
use Rattle.lt_code.specs.Code.{Site, IsShapeOf, IsAccessTo, late}
use Rattle.lt_code.specs.Costs.{alone}
use Rattle.lt_emit.specs.declared.builder.Builder.{Builder}
use Rattle.lt_emit.specs.Emission.{Here, Finished, site_in, counts_at, Adds, TypedStands}
use Rattle.lt_emit.specs.Spending.{Spends}
use Rattle.lt_emit.specs.Operators.{assignment}

-- the shape of a struct stands in the function's table
abbrev pub HasShape : TypeId → (place : ℕ) → Here → Finished → Type 0
HasShape ty place here it = IsShapeOf (site_in here it) (type_in here.types ty) place

-- what an access of a type is to
abbrev pub IsAccess : TypeId → Access → Here → Finished → Type 0
IsAccess ty access here it =
    IsAccessTo (is_struct (type_in here.types ty)) (site_in here it) (type_in here.types ty) access

-- the shape that an access names is there
abbrev pub IsThere : Builder → Access → Type 0
IsThere b it = is_access (counts_at b) it ≡ true

-- a shape was put into the table, and what an access is to
pub record PutsShape (before after : Builder) (ty : TypeId) (place : ℕ) : Type 0 where
  pub adds : Adds before after (HasShape ty place)
  pub there : place < length after.structs.items
  pub spends : Spends (alone 0) before after

pub record PutsAccess (before after : Builder) (ty : TypeId) (it : Access) : Type 0 where
  pub adds : Adds before after (IsAccess ty it)
  pub there : IsThere after it
  pub spends : Spends (alone 0) before after

-- a piece of code that is about a type, where an access is to it
abbrev pub AccessStands : (Site → CType → Piece) → TypeId → Access → (to from : ℕ) → Here → Finished → Type 0
AccessStands piece ty access to from here it = IsAccess ty access here it → TypedStands piece ty to from here it

-- the conversion of an expression that was left
abbrev pub LateStands : Value → (r to from : ℕ) → Here → Finished → Type 0
LateStands v r to from here it = late (site_in here it) (value_of here.types v) r (it.point from) (it.point to)

-- an assignment, behind its operands
abbrev pub AssignmentStands : TypeId → Value → (r to from : ℕ) → Here → Finished → Type 0
AssignmentStands ty v r to from here it =
    assignment (site_in here it) (type_in here.types ty) (value_of here.types v) r (it.point from) (it.point to)
