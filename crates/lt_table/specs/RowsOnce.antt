-- Tables in which each type stands once, behind those of which it is made.
use Rattle.std.specs.Prelude.{◌≡◌, ◌<◌, ℕ, List, [], ◌∷◌, length, Some, slice_get}
use Rattle.lt_tree.specs.declared.typed.types.TypeId.{TypeId}
use Rattle.lt_tree.specs.declared.typed.types.TypeRow.{TypeRow}
use Rattle.lt_tree.specs.declared.typed.types.TypeRow.TheVariants as row
use Rattle.lt_tree.specs.Typing.TypeRows.{type_in, types_of_rows}

abbrev pub AllBefore : ℕ → List TypeId → Type 0
AllBefore n [] = Unit {0}
AllBefore n (t ∷ ts) = (t.place < n) × AllBefore n ts

-- what a row is made of stands before this place
abbrev pub IsMadeBefore : ℕ → TypeRow → Type 0
IsMadeBefore n (row.Pointer t) = t.place < n
IsMadeBefore n (row.Array t k) = t.place < n
IsMadeBefore n (row.Function f) = (f.result.place < n) × AllBefore n f.parameters.items
IsMadeBefore n (row.Qualified q t) = t.place < n
IsMadeBefore n _ = Unit {0}

pub record AreOnce (rows : List TypeRow) : Type 0 where
  pub before : (k : ℕ) (r : TypeRow) → slice_get rows k ≡ Some r → IsMadeBefore k r
  pub apart : (t u : TypeId) → t.place < length rows → u.place < length rows → type_in (types_of_rows rows) t ≡ type_in (types_of_rows rows) u → t.place ≡ u.place
