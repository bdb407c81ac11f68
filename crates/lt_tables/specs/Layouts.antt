-- The sizes of types and the places of members, as tables have them.
use Rattle.std.specs.Prelude.{◌≡◌, ◌==◌, ◌&&◌, ◌*◌, ℕ, Bool, true, false, List, [], ◌∷◌, map, slice_get, slice_index_or, Option, Some, None, unwrap_or}
use Rattle.std.specs.Global.{Vec}
use Rattle.lt_model.specs.declared.scalar.DataModel.{DataModel}
use Rattle.lt_model.specs.declared.sizes.Extent.{Extent}
use Rattle.lt_model.specs.Layout.{then_some, within, resized, no_members, member_offset, with_member}
use Rattle.lt_tree.specs.Typing.Types.{CType, Struct, same}
use Rattle.lt_tree.specs.Typing.TypeRows.{type_in}
use Rattle.lt_tree.specs.Typing.Extents.{Structs, StructType, Placed, type_extent, size_of, placed_behind, placed_members}
use Rattle.lt_table.specs.declared.structs.PlacedMember.{PlacedMember}
use Rattle.lt_table.specs.StructTables.{extent_value, pairs_in}
use Rattle.lt_tables.specs.declared.layouts.Layouts.{Layouts}
use Rattle.lt_tables.specs.declared.parts.layouts.Step.{Step}

abbrev pub size_of_extent : Option Extent → ℕ
size_of_extent extent = unwrap_or (then_some extent (λ e. Some e.size)) 0

-- the size of an object with this extent, as that of an array of one
abbrev pub object_size : Option Extent → ℕ
object_size extent = size_of_extent (then_some extent (λ e. resized e (within (e.size * 1))))

-- the size of a type, where the extents of structs are known; 0 of one that has none
abbrev pub size_with : DataModel → (ℕ → Option Extent) → CType → ℕ
size_with m known t = size_of_extent (type_extent m known t)

-- the members of a struct with their offsets
abbrev pub placed_with : DataModel → (ℕ → Option Extent) → StructType → List Placed
placed_with m known it = placed_behind (type_extent m known) no_members (unwrap_or it.members [])

-- the types and the offsets of members
abbrev pub pairs_of : List CType → List PlacedMember → List (CType × ℕ)
pairs_of types members = map (λ member. (type_in types member.ty, member.offset)) members

-- the members of the struct of a number
abbrev pub members_among : List (Vec PlacedMember) → ℕ → List PlacedMember
members_among all k = elim (slice_get all k) [ None ↦ [] | Some members ↦ members.items ]

-- where a member of a type stands behind others, and what is before the next
abbrev pub step_with : DataModel → (ℕ → Option Extent) → Extent → CType → Option (ℕ × Extent)
step_with m known before t =
    then_some (type_extent m known t) (λ e. then_some (member_offset before e) (λ offset. then_some (with_member before e) (λ after. Some (offset, after))))

abbrev pub step_value : Step → ℕ × Extent
step_value step = (step.offset, extent_value step.after)

-- whether these types and offsets are the same
abbrev pub same_pairs : List (CType × ℕ) → List (CType × ℕ) → Bool
same_pairs [] [] = true
same_pairs (p ∷ ps) (q ∷ qs) = same p.0 q.0 && ((p.1 == q.1) && same_pairs ps qs)
same_pairs _ _ = false

-- those of a program with these structs, whose table has these types
pub record AreLayoutsOf (m : DataModel) (structs : Structs) (types : List CType) (layouts : Layouts) : Type 0 where
  pub sizes : layouts.sizes.items ≡ map (size_of m structs) types
  pub struct_sizes : (k : ℕ) → slice_index_or layouts.struct_sizes.items k 0 ≡ size_of m structs (Struct k)
  pub members : (k : ℕ) → same_pairs (pairs_of types (members_among layouts.members.items k)) (pairs_in (placed_members m structs k)) ≡ true
