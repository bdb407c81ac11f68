-- The layout of types, and what typing asks of structs beside it.
use Rattle.std.specs.Prelude.{ℕ, zero, suc, Bool, false, ◌||◌, if◌then◌else◌, List, [], ◌∷◌, length, Option, Some, None}
use Rattle.std.specs.Str.{bytes_eq}
use Rattle.std.specs.List.{list_any}
use Rattle.lt_model.specs.declared.scalar.DataModel.{DataModel}
use Rattle.lt_model.specs.Types.{CType, Struct, Array, Qualified}
pub use Rattle.lt_model.specs.Layout.{Member, StructType, Structs, members_of, members_in, is_complete, has_size, most_cells, type_cells, cells_of, has_too_many_cells, elements, single_extent, type_extent, members_extent, extent_of, size_of, Placed, placed_at, placed_behind, placed_members}
unfoldable pub use Rattle.lt_model.specs.Layout.{struct_cells, struct_extent}

-- ---- members by their names

abbrev pub named_among : List ℕ → List Placed → Option Placed
named_among name [] = None
named_among name (placed ∷ rest) = if bytes_eq placed.name name then Some placed else named_among name rest

-- the member of a struct that has this name
abbrev pub member_of : DataModel → Structs → ℕ → List ℕ → Option Placed
member_of m structs k name = named_among name (placed_members m structs k)

-- ---- what may be changed, C11 6.3.2.1p1

-- whether the type or a part of it is `const`, where this is known of structs
abbrev pub part_is_constant : (ℕ → Bool) → CType → Bool
part_is_constant known (Struct k) = known k
part_is_constant known (Array t n) = part_is_constant known t
part_is_constant known (Qualified q t) = q.constant || part_is_constant known t
part_is_constant known _ = false

-- whether a struct has a `const` part; the first number is how deep structs may nest
unfoldable pub struct_has_constant : Structs → ℕ → ℕ → Bool
struct_has_constant structs zero k = false
struct_has_constant structs (suc depth) k = list_any (λ member. part_is_constant (struct_has_constant structs depth) member.type) (members_in structs k)

abbrev pub has_constant_part : Structs → CType → Bool
has_constant_part structs t = part_is_constant (struct_has_constant structs (length structs)) t
