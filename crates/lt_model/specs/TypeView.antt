-- The values of types and structs that lie in memory.
use Rattle.std.specs.Prelude.{Bool, true, false, List, map, option_map}
use Rattle.lt_model.specs.declared.ctype.Quals.{Quals}
use Rattle.lt_model.specs.declared.ctype.CType.{CType as HeldType}
use Rattle.lt_model.specs.declared.ctype.CType.TheBlock as at
use Rattle.lt_model.specs.declared.ctype.MemberType.{MemberType}
use Rattle.lt_model.specs.declared.ctype.StructType.{StructType as HeldStruct}
use Rattle.lt_model.specs.Types.{Qualifiers, CType, CTypes, Void, Num, Pointer, Array, Struct, Function, Floating, no_types, a_type, qualified}
use Rattle.lt_model.specs.Layout.{Member, StructType, Structs}

abbrev pub qualifiers_of : Quals → Qualifiers
qualifiers_of q = record { constant = q.constant; volatile = q.volatile }

-- Where qualifiers are held at an array, they are its elements', C11 6.7.3p9.
abbrev mutual
  pub type_of : HeldType → CType
  type_of at.Void = Void
  type_of (at.Num s) = Num s
  type_of (at.Pointer' p t) = Pointer (type_of t)
  type_of (at.Array' p t n) = Array (type_of t) n
  type_of (at.Struct k) = Struct k
  type_of (at.Function' p result shape parameters dots) = Function (type_of result) (types_of parameters) dots
  type_of at.Floating = Floating
  type_of (at.Quoted' q p t) = qualified (qualifiers_of q) (type_of t)

  pub types_of : {m : _} → at.Row_of-CType m → CTypes
  types_of at.end_of-CType = no_types
  types_of (at.more_of-CType first rest) = a_type (type_of first) (types_of rest)

-- whether it is held with qualifiers
abbrev pub is_quoted : HeldType → Bool
is_quoted (at.Quoted' q p t) = true
is_quoted _ = false

abbrev pub member_of : MemberType → Member
member_of m = record { name = m.name; type = type_of m.ty }

abbrev pub struct_of : HeldStruct → StructType
struct_of s = record { members = option_map (map member_of) s.members }

abbrev pub structs_of : List HeldStruct → Structs
structs_of list = map struct_of list
