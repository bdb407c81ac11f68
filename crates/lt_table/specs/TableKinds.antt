-- What a kind tells of a type.
use Rattle.std.specs.Prelude.{◌≡◌, ℕ, Bool, true, false, List, Option, Some, None, option_map}
use Rattle.lt_model.specs.declared.scalar.Scalar.{Scalar}
use Rattle.lt_tree.specs.declared.typed.types.TypeId.{TypeId}
use Rattle.lt_tree.specs.Typing.Types.{CType, Array, scalar_of, target_of, struct_of, is_void, is_integer, is_pointer, is_struct, is_array, is_function, is_floating}
use Rattle.lt_tree.specs.Typing.TypeRows.{type_in}
use Rattle.lt_table.specs.declared.table.kind.Kind.{Kind}
use Rattle.lt_table.specs.declared.table.kind.Kind.TheVariants as kind

abbrev pub kind_scalar : Kind → Option Scalar
kind_scalar (kind.Num s) = Some s
kind_scalar _ = None

abbrev pub kind_target : Kind → Option TypeId
kind_target (kind.Pointer t) = Some t
kind_target _ = None

abbrev pub kind_struct : Kind → Option ℕ
kind_struct (kind.Struct k) = Some k
kind_struct _ = None

abbrev pub kind_is_void : Kind → Bool
kind_is_void kind.Void = true
kind_is_void _ = false

abbrev pub kind_is_integer : Kind → Bool
kind_is_integer (kind.Num s) = true
kind_is_integer _ = false

abbrev pub kind_is_pointer : Kind → Bool
kind_is_pointer (kind.Pointer t) = true
kind_is_pointer _ = false

abbrev pub kind_is_struct : Kind → Bool
kind_is_struct (kind.Struct k) = true
kind_is_struct _ = false

abbrev pub kind_is_array : Kind → Bool
kind_is_array (kind.Array t n) = true
kind_is_array _ = false

abbrev pub kind_is_function : Kind → Bool
kind_is_function kind.Function = true
kind_is_function _ = false

abbrev pub kind_is_floating : Kind → Bool
kind_is_floating kind.Floating = true
kind_is_floating _ = false

-- the type that a kind is made of
abbrev pub kind_part : Kind → Option TypeId
kind_part (kind.Pointer t) = Some t
kind_part (kind.Array t n) = Some t
kind_part _ = None

-- an array type is one of these elements
abbrev pub HasElements : List CType → Kind → CType → Type 0
HasElements types (kind.Array e n) t = t ≡ Array (type_in types e) n
HasElements types _ t = Unit {0}

-- a type is of this kind
pub record IsOfKind (types : List CType) (k : Kind) (t : CType) : Type 0 where
  pub scalar : scalar_of t ≡ kind_scalar k
  pub target : target_of t ≡ option_map (type_in types) (kind_target k)
  pub struct_number : struct_of t ≡ kind_struct k
  pub void : is_void t ≡ kind_is_void k
  pub integer : is_integer t ≡ kind_is_integer k
  pub pointer : is_pointer t ≡ kind_is_pointer k
  pub struct_type : is_struct t ≡ kind_is_struct k
  pub array : is_array t ≡ kind_is_array k
  pub function : is_function t ≡ kind_is_function k
  pub floating : is_floating t ≡ kind_is_floating k
  pub elements : HasElements types k t
