-- The types that the rows of a table stand for: each is made of types of rows before it.
use Rattle.std.specs.Prelude.{◌≡◌, List, [], ◌∷◌, ◌++◌, slice_index_or}
use Rattle.lt_tree.specs.declared.typed.types.TypeId.{TypeId}
use Rattle.lt_tree.specs.declared.typed.types.TypeRow.{TypeRow}
use Rattle.lt_tree.specs.declared.typed.types.TypeRow.TheVariants as row
use Rattle.lt_tree.specs.View.{qualifiers_of}
use Rattle.lt_tree.specs.Typing.Types.{CType, CTypes, Void, Num, Pointer, Array, Struct, Function, Floating, Qualified, no_types, a_type}

-- the type of a place of the table
abbrev pub type_in : List CType → TypeId → CType
type_in types id = slice_index_or types id.place Void

abbrev pub all_in : List CType → List TypeId → CTypes
all_in types [] = no_types
all_in types (id ∷ ids) = a_type (type_in types id) (all_in types ids)

-- the type that a row stands for, where these stand before it
abbrev pub type_of_row : List CType → TypeRow → CType
type_of_row types row.Void = Void
type_of_row types (row.Num s) = Num s
type_of_row types (row.Pointer t) = Pointer (type_in types t)
type_of_row types (row.Array t n) = Array (type_in types t) n
type_of_row types (row.Struct k) = Struct k
type_of_row types (row.Function f) = Function (type_in types f.result) (all_in types f.parameters.items) f.dots
type_of_row types row.Floating = Floating
type_of_row types (row.Qualified q t) = Qualified (qualifiers_of q) (type_in types t)

-- with the types of further rows
abbrev pub types_behind : List CType → List TypeRow → List CType
types_behind types [] = types
types_behind types (row ∷ rows) = types_behind (types ++ type_of_row types row ∷ []) rows

-- the types of the rows of a table
abbrev pub types_of_rows : List TypeRow → List CType
types_of_rows rows = types_behind [] rows

-- The second table goes on from the first; so each place of the first has the same type in both.
abbrev pub Continues : List CType → List CType → Type 0
Continues types longer = (more : List CType) × (longer ≡ types ++ more)

-- it is so whatever types are added
abbrev pub Lasts : List CType → (List CType → Type 0) → Type 0
Lasts types Is = (longer : List CType) → Continues types longer → Is longer
