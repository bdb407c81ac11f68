-- What a table of structs knows of those that are complete.
use Rattle.std.specs.Prelude.{◌≡◌, ◌<◌, ℕ, suc, ◌+◌, ◌*◌, ◌^◌, min, Bool, true, false, ◌||◌, List, [], ◌∷◌, length, map, slice_get, slice_set, Option, Some, None, is_some, option_map, unwrap_or, if◌then◌else◌}
use Rattle.std.specs.Str.{bytes_eq}
use Rattle.std.specs.Global.{Vec, Global}
use Rattle.std.specs.declared.rc.Rc.{Rc}
use Rattle.std.specs.HashMap.{HashMap, get_by}
use Rattle.lt_model.specs.declared.scalar.DataModel.{DataModel}
use Rattle.lt_model.specs.declared.sizes.Extent as model
use Rattle.lt_model.specs.Layout.{then_some, within, rounded, resized, no_members, member_offset, with_member}
use Rattle.lt_tree.specs.declared.typed.types.TypeId.{TypeId}
use Rattle.lt_tree.specs.declared.typed.types.TypeRow.{TypeRow}
use Rattle.lt_tree.specs.declared.typed.entity.Member as entity
use Rattle.lt_tree.specs.declared.typed.entity.StructType.{StructType}
use Rattle.lt_tree.specs.Typing.TypeRows.{type_in}
use Rattle.lt_tree.specs.Typing.Types.{CType}
use Rattle.lt_tree.specs.Typing.EntityView.{structs_of}
use Rattle.lt_tree.specs.Typing.Extents.{Member, Structs, members_of, members_in, is_complete, most_cells, struct_cells, struct_extent, Placed, placed_at, placed_members, struct_has_constant}
use Rattle.lt_table.specs.declared.structs.extent.Extent.{Extent}
use Rattle.lt_table.specs.declared.structs.PlacedMember.{PlacedMember}
use Rattle.lt_table.specs.declared.structs.StructFacts.{StructFacts}
use Rattle.lt_table.specs.declared.structs.StructTable.{StructTable}
use Rattle.lt_table.specs.declared.table.kind.RowFacts.{RowFacts}
use Rattle.lt_table.specs.TableElements.{kind_cells, kind_extent, kind_is_constant}
use Rattle.lt_table.specs.TableRows.{Stays, AreFactsAt}
use Rattle.lt_table.specs.StructNesting.{AreNested}

-- the structs, where types stand in a table
abbrev pub structs_in : List CType → StructTable → Structs
structs_in types table = structs_of types table.structs.items

-- whether the struct of this number is complete, whatever types stand in the table
abbrev pub has_members : List StructType → ℕ → Bool
has_members structs k = is_some (then_some (slice_get structs k) (λ it. it.members))

abbrev pub extent_value : Extent → model.Extent
extent_value e = record { size = e.size; alignment = e.alignment }

-- ---- what is known of a struct by its number

abbrev pub known_at : List (Option StructFacts) → ℕ → Option StructFacts
known_at known k = then_some (slice_get known k) (λ facts. facts)

abbrev pub facts_cells : Option StructFacts → ℕ
facts_cells None = 0
facts_cells (Some facts) = facts.cells

abbrev pub facts_extent : Option StructFacts → Option model.Extent
facts_extent None = None
facts_extent (Some facts) = option_map extent_value facts.extent

abbrev pub facts_constant : Option StructFacts → Bool
facts_constant None = false
facts_constant (Some facts) = facts.has_constant

-- ---- what is known of a type by its row

-- cells past the most that an object may have count as one more than that
abbrev pub row_cells : List (Option StructFacts) → RowFacts → ℕ
row_cells known row = min (min row.count (2 ^ 64) * kind_cells (λ k. facts_cells (known_at known k)) row.inner) (most_cells + 1)

abbrev pub row_extent : DataModel → List (Option StructFacts) → RowFacts → Option model.Extent
row_extent m known row =
    then_some (kind_extent m (λ k. facts_extent (known_at known k)) row.inner) (λ e. resized e (within (e.size * min row.count (2 ^ 64))))

abbrev pub row_constant : List (Option StructFacts) → RowFacts → Bool
row_constant known row = row.quals.constant || kind_is_constant (λ k. facts_constant (known_at known k)) row.inner

-- ---- members, by the rows of their types

abbrev pub cells_from : List (Option StructFacts) → ℕ → List RowFacts → ℕ
cells_from known cells [] = cells
cells_from known cells (row ∷ rows) = cells_from known (min (cells + row_cells known row) (most_cells + 1)) rows

abbrev pub constant_from : List (Option StructFacts) → Bool → List RowFacts → Bool
constant_from known constant [] = constant
constant_from known constant (row ∷ rows) = constant_from known (constant || row_constant known row) rows

abbrev pub extent_from : DataModel → List (Option StructFacts) → model.Extent → List RowFacts → Option model.Extent
extent_from m known before [] = Some before
extent_from m known before (row ∷ rows) = then_some (row_extent m known row) (λ e. then_some (with_member before e) (λ after. extent_from m known after rows))

abbrev pub whole_extent : Option model.Extent → Option model.Extent
whole_extent members = then_some members (λ all. resized all (rounded all.size all.alignment))

-- where a member stands behind others, and with it the end of all
abbrev pub row_placed : DataModel → List (Option StructFacts) → model.Extent → RowFacts → Option (ℕ × model.Extent)
row_placed m known before row =
    then_some (row_extent m known row) (λ e. then_some (member_offset before e) (λ offset. then_some (with_member before e) (λ after. Some (offset, after))))

abbrev pub offsets_from : DataModel → List (Option StructFacts) → model.Extent → List RowFacts → List ℕ
offsets_from m known before [] = []
offsets_from m known before (row ∷ rows) = unwrap_or (then_some (row_placed m known before row) (λ placed. Some (placed.0 ∷ offsets_from m known placed.1 rows))) []

-- ---- members by their names

abbrev pub names_of : List Member → List (List ℕ)
names_of members = map (λ member. member.name) members

abbrev pub names_in : List entity.Member → List (List ℕ)
names_in members = map (λ member. member.name) members

-- the place of the first that is this name
abbrev pub place_of : List ℕ → List (List ℕ) → Option ℕ
place_of name [] = None
place_of name (n ∷ names) = if bytes_eq n name then Some 0 else option_map suc (place_of name names)

-- what a map has for a name
abbrev pub place_in : {S : Type 0} → HashMap (Vec ℕ) ℕ S → List ℕ → Option ℕ
place_in places name = get_by (λ key. bytes_eq name key.items) places

-- ---- members without their names

-- the types and the offsets of members, as far as there are offsets
abbrev pub pairs_of : List entity.Member → List ℕ → List PlacedMember
pairs_of (member ∷ members) (offset ∷ offsets) = record { ty = member.ty; offset = offset } ∷ pairs_of members offsets
pairs_of _ _ = []

abbrev pub pairs_in : List Placed → List (CType × ℕ)
pairs_in placed = map (λ member. (member.type, member.offset)) placed

-- those that a struct has, which is incomplete or not
abbrev pub pairs_at : List CType → Option (List PlacedMember) → List (CType × ℕ)
pairs_at types None = []
pairs_at types (Some members) = map (λ member. (type_in types member.ty, member.offset)) members

abbrev pub shared_in : List CType → Option (Rc (Vec PlacedMember) Global) → List (CType × ℕ)
shared_in types them = pairs_at types (option_map (λ l. l.value.items) them)

-- ---- what a table keeps

abbrev pub placed_with : List Member → List ℕ → List Placed
placed_with (member ∷ members) (offset ∷ offsets) = placed_at member offset ∷ placed_with members offsets
placed_with _ _ = []

pub record AreStructFacts (m : DataModel) (structs : Structs) (k : ℕ) (facts : StructFacts) : Type 0 where
  pub complete : is_some (members_of structs k) ≡ true
  pub cells : facts.cells ≡ min (struct_cells structs (length structs) k) (most_cells + 1)
  pub extent : option_map extent_value facts.extent ≡ struct_extent m structs (length structs) k
  pub constant : facts.has_constant ≡ struct_has_constant structs (length structs) k
  pub placed : placed_with (members_in structs k) facts.offsets.items ≡ placed_members m structs k
  pub places : (name : List ℕ) → place_in facts.places name ≡ place_of name (names_of (members_in structs k))

abbrev pub IsKnown : DataModel → Structs → ℕ → Option StructFacts → Type 0
IsKnown m structs k None = is_some (members_of structs k) ≡ false
IsKnown m structs k (Some facts) = AreStructFacts m structs k facts

pub record AreKnown (m : DataModel) (structs : Structs) (known : List (Option StructFacts)) : Type 0 where
  pub nested : AreNested structs
  pub each : (k : ℕ) → IsKnown m structs k (known_at known k)

-- What the table knows is so where types stand in these rows, and in any that go on from them: its structs were completed over these rows or over
-- rows before them.
abbrev pub Suits : List TypeRow → StructTable → Type 0
Suits rows table = Stays rows (λ types. AreKnown table.model (structs_in types table) table.known.items)

abbrev pub members_at : List StructType → ℕ → Option (List entity.Member)
members_at structs k = then_some (slice_get structs k) (λ it. option_map (λ members. members.items) it.members)

-- what is shared of a struct is of its members
abbrev pub IsShared : Option StructFacts → Option (List entity.Member) → Type 0
IsShared None members = Unit {0}
IsShared (Some facts) None = Unit {0}
IsShared (Some facts) (Some members) = facts.placed.value.items ≡ pairs_of members facts.offsets.items

abbrev pub AreShared : StructTable → Type 0
AreShared table = (k : ℕ) → IsShared (known_at table.known.items k) (members_at table.structs.items k)

-- ---- a struct as it becomes complete

-- what is known of the type of a member, which is complete
abbrev pub IsCompleteRow : List TypeRow → StructTable → TypeId → RowFacts → Type 0
IsCompleteRow rows table t row = AreFactsAt rows t row × Stays rows (λ types. is_complete (structs_in types table) (type_in types t) ≡ true)

abbrev pub AreMemberRows : List TypeRow → StructTable → List entity.Member → List RowFacts → Type 0
AreMemberRows rows table [] [] = Unit {0}
AreMemberRows rows table (member ∷ members) (row ∷ known) = IsCompleteRow rows table member.ty row × AreMemberRows rows table members known
AreMemberRows rows table _ _ = ⊥

-- what is known of a struct with these members
pub record AreDerived (rows : List TypeRow) (table : StructTable) (members : List entity.Member) (facts : StructFacts) : Type 0 where
  pub member_rows : List RowFacts
  pub are_rows : AreMemberRows rows table members member_rows
  pub cells : facts.cells ≡ cells_from table.known.items 0 member_rows
  pub extent : option_map extent_value facts.extent ≡ whole_extent (extent_from table.model table.known.items no_members member_rows)
  pub constant : facts.has_constant ≡ constant_from table.known.items false member_rows
  pub offsets : facts.offsets.items ≡ offsets_from table.model table.known.items no_members member_rows
  pub placed : facts.placed.value.items ≡ pairs_of members facts.offsets.items
  pub places : (name : List ℕ) → place_in facts.places name ≡ place_of name (names_in members)

-- the struct of this number, which was incomplete, has these members
pub record IsPut (old new : StructTable) (number : ℕ) (it : StructType) (facts : StructFacts) : Type 0 where
  pub within : number < length old.structs.items
  pub incomplete : has_members old.structs.items number ≡ false
  pub place : number < length old.known.items
  pub model : new.model ≡ old.model
  pub structs : new.structs.items ≡ slice_set old.structs.items number it
  pub known : new.known.items ≡ slice_set old.known.items number (Some facts)

-- ---- the members of a struct

-- the type and the offset of the member at a place
abbrev pub placed_in : List entity.Member → List ℕ → ℕ → Option (TypeId × ℕ)
placed_in members offsets place = then_some (slice_get members place) (λ member. then_some (slice_get offsets place) (λ offset. Some (member.ty, offset)))

abbrev pub member_at : StructTable → ℕ → List ℕ → Option (TypeId × ℕ)
member_at table k name =
    then_some (members_at table.structs.items k) (λ members. then_some (known_at table.known.items k) (λ facts.
    then_some (place_in facts.places name) (placed_in members facts.offsets.items)))

-- this type and this offset are those of the member
abbrev pub IsMember : List CType → Option (TypeId × ℕ) → Option Placed → Type 0
IsMember types found placed = option_map {U = CType × ℕ} (λ m. (type_in types m.0, m.1)) found ≡ option_map {U = CType × ℕ} (λ p. (p.type, p.offset)) placed
