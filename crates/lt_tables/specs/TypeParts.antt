-- What types are made of, as far as their extents follow from it, and the extents of structs as far as they are known.
use Rattle.std.specs.Prelude.{◌≡◌, ℕ, suc, ◌*◌, ◌^◌, min, List, [], ◌∷◌, length, slice_get, slice_index_or, Option, Some, None, option_map}
use Rattle.lt_model.specs.declared.scalar.DataModel.{DataModel}
use Rattle.lt_model.specs.declared.sizes.Extent as model
use Rattle.lt_model.specs.Layout.{then_some, within, rounded, resized, no_members}
use Rattle.lt_tree.specs.Typing.Types.{CType, Void, element}
use Rattle.lt_tree.specs.Typing.Extents.{Member, Structs, members_of, elements, single_extent, type_extent, members_extent, struct_extent}
use Rattle.lt_table.specs.declared.structs.extent.Extent.{Extent}
use Rattle.lt_table.specs.StructTables.{extent_value}
use Rattle.lt_tables.specs.declared.type_parts.Single.{Single}
use Rattle.lt_tables.specs.declared.type_parts.Single.TheVariants as single
use Rattle.lt_tables.specs.declared.type_parts.TypeParts.{TypeParts}

-- the extent of a type that is no array, where those of structs are known
abbrev pub single_with : (ℕ → Option model.Extent) → Single → Option model.Extent
single_with known (single.Scalar extent) = Some (extent_value extent)
single_with known (single.Struct k) = known k
single_with known single.Other = None

-- the extent of a type that is made so
abbrev pub parts_extent : (ℕ → Option model.Extent) → TypeParts → Option model.Extent
parts_extent known it = then_some (single_with known it.element) (λ e. resized e (within (e.size * min it.count (2 ^ 64))))

-- a type is made so
pub record ArePartsOf (m : DataModel) (t : CType) (it : TypeParts) : Type 0 where
  pub itself : (known : ℕ → Option model.Extent) → single_with known it.itself ≡ single_extent m known t
  pub element : (known : ℕ → Option model.Extent) → single_with known it.element ≡ single_extent m known (element t)
  pub count : it.count ≡ min (elements t) (2 ^ 64)

-- each of these types
abbrev pub AreAllParts : DataModel → List CType → List TypeParts → Type 0
AreAllParts m [] [] = Unit {0}
AreAllParts m (t ∷ ts) (it ∷ its) = ArePartsOf m t it × AreAllParts m ts its
AreAllParts m _ _ = ⊥

-- what is known of a type without a row
abbrev pub void_parts : TypeParts
void_parts = record { itself = single.Other; element = single.Other; count = 1 }

-- each of the types of a table, by their places
abbrev pub HaveParts : DataModel → List CType → List TypeParts → Type 0
HaveParts m types its = (length its ≡ length types) × ((k : ℕ) → ArePartsOf m (slice_index_or types k Void) (slice_index_or its k void_parts))

-- ---- extents of structs

-- the extent of the struct of a number, as far as it is known
abbrev pub extent_among : List (Option Extent) → ℕ → Option model.Extent
extent_among known k = then_some (slice_get known k) (λ extent. option_map extent_value extent)

-- the extent of a struct with these members, where those of structs are known
abbrev pub whole_with : DataModel → (ℕ → Option model.Extent) → Option (List Member) → Option model.Extent
whole_with m known members =
    then_some members (λ its. then_some (members_extent (type_extent m known) no_members its) (λ all. resized all (rounded all.size all.alignment)))

-- whatever the one knows, the other knows too
abbrev pub IsWithin : (ℕ → Option model.Extent) → (ℕ → Option model.Extent) → Type 0
IsWithin known other = (k : ℕ) (e : model.Extent) → known k ≡ Some e → other k ≡ Some e

-- how many are known
abbrev pub known_count : List (Option Extent) → ℕ
known_count [] = 0
known_count (None ∷ known) = known_count known
known_count (Some extent ∷ known) = suc (known_count known)

-- the extents that are known are those of structs that nest no deeper than there are extents
abbrev pub AreReached : DataModel → Structs → List (Option Extent) → Type 0
AreReached m structs known = IsWithin (extent_among known) (struct_extent m structs (known_count known))

-- the extent of no further struct follows from those that are known
abbrev pub AreSettled : DataModel → Structs → List (Option Extent) → Type 0
AreSettled m structs known = (k : ℕ) → extent_among known k ≡ None → whole_with m (extent_among known) (members_of structs k) ≡ None
