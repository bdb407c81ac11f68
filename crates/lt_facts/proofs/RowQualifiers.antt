-- The qualifiers of the types that rows stand for.
use Rattle.std.proofs.Common.{◌≡◌, ◌<◌, ◌≤◌, false, List, [], ◌∷◌, ◌++◌, length, map, get_or, slice_index_or, refl, sym, ap, ◌∙◌, append-nil, append_assoc, subst}
use Rattle.std.proofs.lemmas.List.{map_push, get_or-map, get_or_past, length-map}
use Rattle.lt_tree.specs.declared.typed.types.TypeId.{TypeId}
use Rattle.lt_tree.specs.declared.typed.types.TypeRow.{TypeRow}
use Rattle.lt_tree.specs.declared.typed.types.TypeRow.TheVariants as row
use Rattle.lt_tree.specs.Typing.Types.{CType, Void}
use Rattle.lt_tree.specs.Typing.TypeRows.{type_in, type_of_row, types_behind, types_of_rows}
use Rattle.lt_facts.specs.Parameters.{is_volatile, is_volatile_row}
use Rattle.lt_facts.proofs.TypeFamilies.{at_map}

row_volatile : (types : List CType) (r : TypeRow) → is_volatile (type_of_row types r) ≡ is_volatile_row r
row_volatile types row.Void = refl
row_volatile types (row.Num s) = refl
row_volatile types (row.Pointer t) = refl
row_volatile types (row.Array t n) = refl
row_volatile types (row.Struct k) = refl
row_volatile types (row.Function f) = refl
row_volatile types row.Floating = refl
row_volatile types (row.Qualified q t) = refl

rows_volatile : (types : List CType) (rows : List TypeRow) → map is_volatile (types_behind types rows) ≡ map is_volatile types ++ map is_volatile_row rows
rows_volatile types [] = sym (append-nil (map is_volatile types))
rows_volatile types (r ∷ rows) =
    rows_volatile (types ++ type_of_row types r ∷ []) rows
    ∙ ap (λ bs. bs ++ map is_volatile_row rows) (map_push is_volatile types (type_of_row types r))
    ∙ append_assoc (map is_volatile types) (is_volatile (type_of_row types r) ∷ []) (map is_volatile_row rows)
    ∙ ap (λ b. map is_volatile types ++ b ∷ map is_volatile_row rows) (row_volatile types r)

type_volatile : (rows : List TypeRow) (t : TypeId) → slice_index_or (map is_volatile_row rows) t.place false ≡ is_volatile (type_in (types_of_rows rows) t)
type_volatile rows t = ap (λ bs. slice_index_or bs t.place false) (sym (rows_volatile [] rows)) ∙ at_map is_volatile (types_of_rows rows) t.place Void

pub volatile_at : (rows : List TypeRow) (t : TypeId) (r : TypeRow) → t.place < length rows → r ≡ get_or rows t.place r → is_volatile_row r ≡ is_volatile (type_in (types_of_rows rows) t)
volatile_at rows t r within is = ap is_volatile_row is ∙ sym (get_or-map is_volatile_row rows t.place r false within) ∙ type_volatile rows t

pub volatile_past : (rows : List TypeRow) (t : TypeId) → length rows ≤ t.place → false ≡ is_volatile (type_in (types_of_rows rows) t)
volatile_past rows t past = sym (get_or_past (map is_volatile_row rows) t.place false (subst (λ n. n ≤ t.place) (sym (length-map rows is_volatile_row)) past)) ∙ type_volatile rows t
