-- The type of a row of a table.
use Rattle.std.proofs.Common.{◌≡◌, ◌<◌, ◌+◌, ℕ, zero, suc, List, [], ◌∷◌, length, slice_get, Some, is_some, unwrap_or, true≢false, refl, sym, ap, subst, ◌∙◌, arith}
use Rattle.lt_tree.specs.declared.typed.types.TypeId.{TypeId}
use Rattle.lt_tree.specs.declared.typed.types.TypeRow.{TypeRow}
use Rattle.lt_tree.specs.declared.typed.types.TypeRow.TheVariants as row
use Rattle.lt_tree.specs.View.{qualifiers_of}
use Rattle.lt_tree.specs.Typing.Types.{CType, Pointer, Array, Function, Qualified, a_type}
use Rattle.lt_tree.specs.Typing.TypeRows.{type_in, all_in, type_of_row, types_behind, types_of_rows, Continues}
use Rattle.lt_tree.specs.Typing.TypeIds.{ids_in_row, AreBelow, AreMadeOfRowsBefore}
use Rattle.lt_input_names.proofs.Tables.{with_type, continues_behind, continues_through, type_in-longer, type_in-last, length-with_type}

some_same : (r s : TypeRow) → Some r ≡ Some s → s ≡ r
some_same r s p = ap (λ o. unwrap_or o s) (sym p)

module _ (types longer : List CType) (more : Continues types longer) where
  all_stay : (ids : List TypeId) → AreBelow (length types) ids → all_in longer ids ≡ all_in types ids
  all_stay [] within = refl
  all_stay (id ∷ ids) within = ap (λ a. a_type a (all_in longer ids)) (type_in-longer types longer id more within.0) ∙ ap (a_type (type_in types id)) (all_stay ids within.1)

  -- what is made of types stays
  row_stays : (r : TypeRow) → AreBelow (length types) (ids_in_row r) → type_of_row longer r ≡ type_of_row types r
  row_stays row.Void within = refl
  row_stays (row.Num s) within = refl
  row_stays (row.Pointer t) within = ap Pointer (type_in-longer types longer t more within.0)
  row_stays (row.Array t n) within = ap (λ a. Array a n) (type_in-longer types longer t more within.0)
  row_stays (row.Struct k) within = refl
  row_stays (row.Function f) within =
      ap (λ a. Function a (all_in longer f.parameters.items) f.dots) (type_in-longer types longer f.result more within.0)
      ∙ ap (λ ts. Function (type_in types f.result) ts f.dots) (all_stay f.parameters.items within.1)
  row_stays row.Floating within = refl
  row_stays (row.Qualified q t) within = ap (Qualified (qualifiers_of q)) (type_in-longer types longer t more within.0)

row_from : (front : List CType) (rows : List TypeRow) (k : ℕ) (r : TypeRow) (id : TypeId) → slice_get rows k ≡ Some r → id.place ≡ length front + k → AreBelow id.place (ids_in_row r)
    → type_in (types_behind front rows) id ≡ type_of_row (types_behind front rows) r
row_from front [] k r id at is below = absurd (true≢false (sym (ap is_some at)))
row_from front (x ∷ rows) zero r id at is below =
    let here : id.place ≡ length front = omega (arith, is) in
    let same : r ≡ x = some_same x r at in
    let more = continues_behind (with_type front x) rows in
    let before = continues_through front (with_type front x) (types_behind (with_type front x) rows) (type_of_row front x ∷ [], refl) more in
    let within : id.place < length (with_type front x) = omega (arith, here, length-with_type front x) in
    type_in-longer (with_type front x) (types_behind (with_type front x) rows) id more within ∙ type_in-last front x id here
    ∙ ap (type_of_row front) (sym same) ∙ sym (row_stays front (types_behind (with_type front x) rows) before r (subst (λ n. AreBelow n (ids_in_row r)) here below))
row_from front (x ∷ rows) (suc k) r id at is below = row_from (with_type front x) rows k r id at (omega (arith, is, length-with_type front x)) below

-- the type of an id is that of its row
pub row_type : (rows : List TypeRow) (id : TypeId) (r : TypeRow) → AreMadeOfRowsBefore rows → slice_get rows id.place ≡ Some r → type_in (types_of_rows rows) id ≡ type_of_row (types_of_rows rows) r
row_type rows id r made at = row_from [] rows id.place r id at (omega arith) (made id.place r at)
