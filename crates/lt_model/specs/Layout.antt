-- Structs, and the cells, sizes, alignments and offsets of types, C11 6.2.8, 6.5.3.4 and 6.7.2.1. Void, function and floating types and
-- incomplete structs have no size; nor has a type where a number of bytes on the way passes 64 bits.
use Rattle.std.specs.Prelude.{◌≡◌, ◌<◌, ℕ, zero, suc, ◌+◌, ◌*◌, ◌/◌, ◌^◌, max, nat_lt, Bool, true, false, not, ◌&&◌, List, [], ◌∷◌, length, sum_by, slice_get, Option, Some, None, is_some, unwrap_or, if◌then◌else◌}
use Rattle.std.specs.Int.{next_multiple_of}
use Rattle.lt_model.specs.declared.scalar.DataModel.{DataModel}
use Rattle.lt_model.specs.declared.scalar.Scalar.{Scalar}
use Rattle.lt_model.specs.declared.sizes.Extent.{Extent}
use Rattle.lt_model.specs.Scalar.{width_of, pointer_width}
use Rattle.lt_model.specs.Types.{CType, Void, Num, Pointer, Array, Struct, Function, Floating, Qualified, element, is_floating}

-- what follows from a value, if there is one
abbrev pub then_some : {A B : Type 0} → Option A → (A → Option B) → Option B
then_some None go = None
then_some (Some a) go = go a

-- a number of bytes that fits 64 bits
abbrev pub within : ℕ → Option ℕ
within n = if nat_lt n (2 ^ 64) then Some n else None

-- the next multiple of an alignment
abbrev pub rounded : ℕ → ℕ → Option ℕ
rounded n alignment = if nat_lt 0 alignment then within (next_multiple_of n alignment) else None

-- the bytes that hold so many bits
abbrev pub bytes_for : ℕ → ℕ
bytes_for bits = (bits + 7) / 8

-- the alignment of a scalar or a pointer equals its size
abbrev pub extent_for : ℕ → Extent
extent_for bits = record { size = bytes_for bits; alignment = bytes_for bits }

abbrev pub scalar_extent : DataModel → Scalar → Extent
scalar_extent m s = extent_for (width_of m s)

abbrev pub pointer_extent : DataModel → Extent
pointer_extent m = extent_for (pointer_width m)

abbrev pub resized : Extent → Option ℕ → Option Extent
resized e None = None
resized e (Some size) = Some (record { size = size; alignment = e.alignment })

-- ---- structs

-- a member of a struct
pub record Member : Type 0 where
  pub name : List ℕ
  pub type : CType

-- a struct; one without members is incomplete
pub record StructType : Type 0 where
  pub members : Option (List Member)

abbrev pub Structs : Type 0
Structs = List StructType

-- the members of a struct that is complete
abbrev pub members_of : Structs → ℕ → Option (List Member)
members_of structs k = then_some (slice_get structs k) (λ it. it.members)

-- the members of a struct, as far as it has any
abbrev pub members_in : Structs → ℕ → List Member
members_in structs k = unwrap_or (members_of structs k) []

-- whether an object of the type can be made, C11 6.2.5p1
abbrev pub is_complete : Structs → CType → Bool
is_complete structs Void = false
is_complete structs (Num s) = true
is_complete structs (Pointer t) = true
is_complete structs (Array t n) = nat_lt 0 n && is_complete structs t
is_complete structs (Struct k) = is_some (members_of structs k)
is_complete structs (Function t ts dots) = false
is_complete structs Floating = true
is_complete structs (Qualified q t) = is_complete structs t

-- whether the type has a size here: floating types have none
abbrev pub has_size : Structs → CType → Bool
has_size structs t = is_complete structs t && not (is_floating (element t))

-- ---- cells: the scalars that an object is made of

-- the most cells that an object may have
abbrev pub most_cells : ℕ
most_cells = 1048576

-- the cells of a type, where those of structs are known
abbrev pub type_cells : (ℕ → ℕ) → CType → ℕ
type_cells known Void = 0
type_cells known (Num s) = 1
type_cells known (Pointer t) = 1
type_cells known (Array t n) = n * type_cells known t
type_cells known (Struct k) = known k
type_cells known (Function t ts dots) = 0
type_cells known Floating = 1
type_cells known (Qualified q t) = type_cells known t

-- the cells of a struct; the first number is how deep structs may nest
unfoldable pub struct_cells : Structs → ℕ → ℕ → ℕ
struct_cells structs zero k = 0
struct_cells structs (suc depth) k = sum_by (λ member. type_cells (struct_cells structs depth) member.type) (members_in structs k)

abbrev pub cells_of : Structs → CType → ℕ
cells_of structs t = type_cells (struct_cells structs (length structs)) t

abbrev pub has_too_many_cells : Structs → CType → Bool
has_too_many_cells structs t = nat_lt most_cells (cells_of structs t)

-- ---- sizes and alignments

-- how many elements an array has, and the arrays that are its elements; what is no array counts as one
abbrev pub elements : CType → ℕ
elements (Array t n) = n * elements t
elements t = 1

-- the extent of a type that is no array, where the extents of structs are known
abbrev pub single_extent : DataModel → (ℕ → Option Extent) → CType → Option Extent
single_extent m known (Num s) = Some (scalar_extent m s)
single_extent m known (Pointer t) = Some (pointer_extent m)
single_extent m known (Struct k) = known k
single_extent m known (Qualified q t) = single_extent m known t
single_extent m known t = None

-- the extent of a type
abbrev pub type_extent : DataModel → (ℕ → Option Extent) → CType → Option Extent
type_extent m known t = then_some (single_extent m known (element t)) (λ e. resized e (within (e.size * elements t)))

-- where a member stands after others: at the next multiple of its alignment
abbrev pub member_offset : Extent → Extent → Option ℕ
member_offset before e = rounded before.size e.alignment

-- members with one more behind them: the end of the last, and the greatest alignment
abbrev pub with_member : Extent → Extent → Option Extent
with_member before e =
    then_some (member_offset before e) (λ offset. then_some (within (offset + e.size)) (λ end. Some (record { size = end; alignment = max before.alignment e.alignment })))

abbrev pub no_members : Extent
no_members = record { size = 0; alignment = 1 }

-- members behind others: the end of the last, and the greatest alignment
abbrev pub members_extent : (CType → Option Extent) → Extent → List Member → Option Extent
members_extent of before [] = Some before
members_extent of before (member ∷ members) =
    then_some (of member.type) (λ e. then_some (with_member before e) (λ after. members_extent of after members))

-- The extent of a struct, whose size is rounded up to its alignment. The first number is how deep structs may nest.
unfoldable pub struct_extent : DataModel → Structs → ℕ → ℕ → Option Extent
struct_extent m structs zero k = None
struct_extent m structs (suc depth) k =
    then_some (members_of structs k) (λ members. then_some (members_extent (type_extent m (struct_extent m structs depth)) no_members members) (λ all. resized all (rounded all.size all.alignment)))

-- The extent of a type of a program. Structs nest no deeper than there are structs, unless one holds itself: that one has no size.
abbrev pub extent_of : DataModel → Structs → CType → Option Extent
extent_of m structs t = type_extent m (struct_extent m structs (length structs)) t

-- the size of a type, if it has one
abbrev pub size_in : DataModel → Structs → CType → Option ℕ
size_in m structs t = then_some (extent_of m structs t) (λ e. Some e.size)

-- the size of a type that has one
abbrev pub size_of : DataModel → Structs → CType → ℕ
size_of m structs t = unwrap_or (size_in m structs t) 0

-- ---- offsets

-- a member with its offset
pub record Placed : Type 0 where
  pub name : List ℕ
  pub type : CType
  pub offset : ℕ

abbrev pub placed_at : Member → ℕ → Placed
placed_at member offset = record { name = member.name; type = member.type; offset = offset }

-- members behind others, each at the next multiple of its alignment; up to the first that has no extent
abbrev pub placed_behind : (CType → Option Extent) → Extent → List Member → List Placed
placed_behind of before [] = []
placed_behind of before (member ∷ members) =
    unwrap_or (then_some (of member.type) (λ e. then_some (member_offset before e) (λ offset. then_some (with_member before e) (λ after.
    Some (placed_at member offset ∷ placed_behind of after members))))) []

abbrev pub placed_members : DataModel → Structs → ℕ → List Placed
placed_members m structs k = placed_behind (extent_of m structs) no_members (members_in structs k)

abbrev pub offset_among : List Placed → ℕ → Option ℕ
offset_among placed n = then_some (slice_get placed n) (λ it. Some it.offset)

-- the offset of a member of a struct, by its place among the members
abbrev pub offset_in : DataModel → Structs → ℕ → ℕ → Option ℕ
offset_in m structs k n = offset_among (placed_members m structs k) n

-- ---- structs that don't hold themselves

-- Of the structs, an object of the type holds only one that stands in the list and has a lower rank than struct k. What stands behind a pointer isn't
-- held.
abbrev pub IsBelow : Structs → (ℕ → ℕ) → ℕ → CType → Type 0
IsBelow structs rank k (Struct j) = (j < length structs) × (rank j < rank k)
IsBelow structs rank k (Array t n) = IsBelow structs rank k t
IsBelow structs rank k (Qualified q t) = IsBelow structs rank k t
IsBelow structs rank k t = Unit {0}

abbrev pub AreBelow : Structs → (ℕ → ℕ) → ℕ → List Member → Type 0
AreBelow structs rank k [] = Unit {0}
AreBelow structs rank k (member ∷ members) = IsBelow structs rank k member.type × AreBelow structs rank k members

-- No struct holds itself, directly or through others: they have ranks, below their number, that fall from each struct to those that it holds.
pub record AreRanked (structs : Structs) (rank : ℕ → ℕ) : Type 0 where
  pub low : (k : ℕ) → k < length structs → rank k < length structs
  pub falls : (k : ℕ) (members : List Member) → members_of structs k ≡ Some members → AreBelow structs rank k members
