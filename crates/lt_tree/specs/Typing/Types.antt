-- What typing asks of types, C11 6.2.5, 6.2.7 and 6.7.3. Types as values are those that layout has.
use Rattle.std.specs.Prelude.{ℕ, ◌==◌, ◌&&◌, ◌||◌, Bool, true, false, not, if◌then◌else◌, Option, Some, None}
use denote.Enum.Bare.{sameb}
use Rattle.lt_model.specs.contracts.scalar.Scalar.{the_type}
use Rattle.lt_model.specs.declared.scalar.Scalar.{Scalar}
use Rattle.lt_model.specs.Types.{Qualifiers}
pub use Rattle.lt_model.specs.Types.{CType, Void, Num, Pointer, Array, Struct, Function, Floating, Qualified, CTypes, no_types, a_type, both, add_qualifiers, qualified, unqualified, is_floating, element}

-- ---- qualifiers, C11 6.7.3

abbrev pub no_qualifiers : Qualifiers
no_qualifiers = record { constant = false; volatile = false }

-- whether the first have all of the second
abbrev pub include : Qualifiers → Qualifiers → Bool
include p q = (p.constant || not q.constant) && (p.volatile || not q.volatile)

-- its qualifiers; for an array those of its elements
abbrev pub qualifiers_of : CType → Qualifiers
qualifiers_of (Qualified q t) = q
qualifiers_of (Array t n) = qualifiers_of t
qualifiers_of _ = no_qualifiers

abbrev mutual
  -- without qualifiers, also inside
  pub bare : CType → CType
  bare (Pointer t) = Pointer (bare t)
  bare (Array t n) = Array (bare t) n
  bare (Function t ts dots) = Function (bare t) (all_bare ts) dots
  bare (Qualified q t) = bare t
  bare Void = Void
  bare (Num s) = Num s
  bare (Struct k) = Struct k
  bare Floating = Floating

  pub all_bare : CTypes → CTypes
  all_bare no_types = no_types
  all_bare (a_type t ts) = a_type (bare t) (all_bare ts)

-- ---- compatible types, C11 6.2.7

abbrev pub same_scalar : Scalar → Scalar → Bool
same_scalar = sameb the_type

abbrev pub same_qualifiers : Qualifiers → Qualifiers → Bool
same_qualifiers p q = include p q && include q p

abbrev pub same_bool : Bool → Bool → Bool
same_bool a b = if a then b else not b

abbrev mutual
  -- Types are compatible where they are the same: an enumerated type is `int`, `()` is `(void)`, and a struct is compatible with itself alone. So the
  -- composite of two is either of them; that of arrays of which one has no length yet is the other.
  pub same : CType → CType → Bool
  same Void Void = true
  same (Num s) (Num r) = same_scalar s r
  same (Pointer t) (Pointer u) = same t u
  same (Array t n) (Array u k) = (n == k) && same t u
  same (Struct j) (Struct k) = j == k
  same (Function t ts a) (Function u us b) = same t u && all_same ts us && same_bool a b
  same Floating Floating = true
  same (Qualified p t) (Qualified q u) = same_qualifiers p q && same t u
  same _ _ = false

  pub all_same : CTypes → CTypes → Bool
  all_same no_types no_types = true
  all_same (a_type t ts) (a_type u us) = same t u && all_same ts us
  all_same _ _ = false

-- the same, each without its own qualifiers
abbrev pub alike : CType → CType → Bool
alike t u = same (unqualified t) (unqualified u)

-- ---- kinds of types, C11 6.2.5

abbrev pub scalar_of : CType → Option Scalar
scalar_of (Num s) = Some s
scalar_of (Qualified q t) = scalar_of t
scalar_of _ = None

abbrev pub target_of : CType → Option CType
target_of (Pointer t) = Some t
target_of (Qualified q t) = target_of t
target_of _ = None

abbrev pub struct_of : CType → Option ℕ
struct_of (Struct k) = Some k
struct_of (Qualified q t) = struct_of t
struct_of _ = None

abbrev pub is_void : CType → Bool
is_void Void = true
is_void (Qualified q t) = is_void t
is_void _ = false

abbrev pub is_integer : CType → Bool
is_integer (Num s) = true
is_integer (Qualified q t) = is_integer t
is_integer _ = false

abbrev pub is_pointer : CType → Bool
is_pointer (Pointer t) = true
is_pointer (Qualified q t) = is_pointer t
is_pointer _ = false

-- floating types aside, no value of which is read
abbrev pub is_scalar : CType → Bool
is_scalar t = is_integer t || is_pointer t

abbrev pub is_struct : CType → Bool
is_struct (Struct k) = true
is_struct (Qualified q t) = is_struct t
is_struct _ = false

abbrev pub is_array : CType → Bool
is_array (Array t n) = true
is_array _ = false

abbrev pub is_function : CType → Bool
is_function (Function t ts dots) = true
is_function _ = false

abbrev pub is_pointer_to_function : CType → Bool
is_pointer_to_function (Pointer t) = is_function t
is_pointer_to_function (Qualified q t) = is_pointer_to_function t
is_pointer_to_function _ = false

-- Its own qualifiers: an array has none, since those that are written at it are its elements', C11 6.7.3p9.
abbrev pub own_qualifiers : CType → Qualifiers
own_qualifiers t = if is_array t then no_qualifiers else qualifiers_of t

-- ---- parameters, C11 6.7.6.3

-- A parameter of array type is a pointer to its elements, one of function type a pointer to the function.
abbrev pub adjusted : CType → CType
adjusted (Array t n) = Pointer t
adjusted (Function t ts dots) = Pointer (Function t ts dots)
adjusted t = t

-- the type of an expression as a value, C11 6.3.2.1: an array is a pointer to its first element, and the value has no qualifiers
abbrev pub value_type : CType → CType
value_type (Array t n) = Pointer t
value_type t = unqualified t
