-- The types of rows without qualifiers, also inside.
use Rattle.std.specs.Prelude.{◌≡◌, List, [], ◌∷◌, Some, slice_get}
use Rattle.lt_tree.specs.declared.typed.types.TypeId.{TypeId}
use Rattle.lt_tree.specs.declared.typed.types.TypeRow.{TypeRow}
use Rattle.lt_tree.specs.Typing.Types.{bare}
use Rattle.lt_tree.specs.Typing.TypeRows.{type_in}
use Rattle.lt_table.specs.TableRows.{Stays}

-- the id at a place is that of the bare type of the row there
abbrev pub AreBare : List TypeRow → List TypeId → Type 0
AreBare rows ids = (t u : TypeId) → slice_get ids t.place ≡ Some u → Stays rows (λ types. type_in types u ≡ bare (type_in types t))

-- the second are what stands at the places of the first
abbrev pub BareOf : List TypeId → List TypeId → List TypeId → Type 0
BareOf ids [] [] = Unit {0}
BareOf ids (t ∷ ts) (u ∷ us) = (slice_get ids t.place ≡ Some u) × BareOf ids ts us
BareOf ids _ _ = ⊥
