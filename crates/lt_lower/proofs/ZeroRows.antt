-- Zeros of the types of rows, row by row.
use Rattle.std.proofs.Common.{◌≡◌, ◌<◌, ◌+◌, ℕ, List, [], ◌∷◌, ◌++◌, length, map, take, get_or, refl, sym, ap, ◌∙◌}
use Rattle.std.proofs.lemmas.List.{take_more, map-append}
use Rattle.lt_tree.specs.declared.typed.types.TypeRow.{TypeRow}
use Rattle.lt_tree.specs.Typing.Types.{CType}
use Rattle.lt_tree.specs.Typing.TypeRows.{type_of_row, types_behind, types_of_rows}
use Rattle.lt_lower.specs.declared.function.ending.Zeros.{Zeros}
use Rattle.lt_lower.specs.Zeros.{zeros_of}

types_last : (types : List CType) (rows : List TypeRow) (r : TypeRow)
    → types_behind types (rows ++ r ∷ []) ≡ types_behind types rows ++ type_of_row (types_behind types rows) r ∷ []
types_last types [] r = refl
types_last types (row ∷ rows) r = types_last (types ++ type_of_row types row ∷ []) rows r

-- one row more
pub zeros_more :
    (given : List TypeRow) (k : ℕ) (row : TypeRow) (before after : List Zeros) (it : Zeros) → k < length given → row ≡ get_or given k row
    → before ≡ map zeros_of (types_of_rows (take k given)) → it ≡ zeros_of (type_of_row (types_of_rows (take k given)) row)
    → after ≡ before ++ it ∷ [] → after ≡ map zeros_of (types_of_rows (take (k + 1) given))
zeros_more given k row before after it within at are is last =
    let front = types_of_rows (take k given) in
    let behind : front ++ type_of_row front row ∷ [] ≡ types_of_rows (take (k + 1) given) =
    ap (λ r. front ++ type_of_row front r ∷ []) at ∙ sym (types_last [] (take k given) (get_or given k row))
    ∙ ap types_of_rows (sym (take_more given k row within)) in
    last ∙ ap (λ zs. zs ++ it ∷ []) are ∙ ap (λ z. map zeros_of front ++ z ∷ []) is
    ∙ sym (map-append zeros_of front (type_of_row front row ∷ [])) ∙ ap (map zeros_of) behind
