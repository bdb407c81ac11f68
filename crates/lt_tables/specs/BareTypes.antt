-- Types without qualifiers, as a table of types has them.
use Rattle.std.specs.Prelude.{◌≡◌, ℕ, Bool, true, false, ◌&&◌, if◌then◌else◌, List, [], ◌∷◌, slice_index_or}
use Rattle.lt_tree.specs.declared.typed.types.TypeId.{TypeId}
use Rattle.lt_tree.specs.declared.typed.types.TypeRow.{TypeRow}
use Rattle.lt_tree.specs.Typing.Types.{CType, CTypes, no_types, a_type, Void, Num, Pointer, Array, Struct, Function, Floating, Qualified, bare, same}
use Rattle.lt_tree.specs.Typing.TypeRows.{type_in}
use Rattle.lt_table.specs.TableRows.{Stays}
use Rattle.lt_tables.specs.declared.bare.BareRow.{BareRow}

-- whether a type has no qualifiers, also inside
abbrev mutual
  pub is_bare : CType → Bool
  is_bare (Pointer t) = is_bare t
  is_bare (Array t n) = is_bare t
  is_bare (Function t ts dots) = is_bare t && are_bare ts
  is_bare (Qualified q t) = false
  is_bare Void = true
  is_bare (Num s) = true
  is_bare (Struct k) = true
  is_bare Floating = true

  pub are_bare : CTypes → Bool
  are_bare no_types = true
  are_bare (a_type t ts) = is_bare t && are_bare ts

-- the id of the type without qualifiers, in the table of these rows
abbrev pub IsBareOf : List TypeRow → CType → BareRow → Type 0
IsBareOf rows t it = Stays rows (λ longer. type_in longer it.id ≡ bare t) × (it.is_bare ≡ is_bare t)

abbrev pub AreBareOf : List TypeRow → List CType → List BareRow → Type 0
AreBareOf rows [] [] = Unit {0}
AreBareOf rows (t ∷ ts) (it ∷ its) = IsBareOf rows t it × AreBareOf rows ts its
AreBareOf rows _ _ = ⊥

-- each of the types of a table, by their ids; what has no row is void
abbrev pub HaveBare : List TypeRow → List CType → List BareRow → BareRow → Type 0
HaveBare rows types its void = (id : TypeId) → IsBareOf rows (type_in types id) (slice_index_or its id.place void)

-- the id of a type, whatever types are added, by the test whether types are the same
abbrev pub HasId : List TypeRow → CType → TypeId → Type 0
HasId rows t id = Stays rows (λ longer. same (type_in longer id) t ≡ true)

-- each of the types of a table without qualifiers has its id
abbrev pub HaveIds : List TypeRow → List CType → List BareRow → BareRow → Type 0
HaveIds rows types its void = (t : TypeId) → HasId rows (bare (type_in types t)) (slice_index_or its t.place void).id

-- the id of a type without qualifiers; one with qualifiers has a number that no id has
abbrev pub key_of : ℕ → BareRow → ℕ
key_of count it = if it.is_bare then it.id.place else count
