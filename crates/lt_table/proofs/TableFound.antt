-- A row that a table finds has the type of the row that was asked for.
use Rattle.std.proofs.Common.{◌≡◌, ℕ, zero, suc, Bool, true, List, [], ◌∷◌, slice_get, position, Some, Result, Ok, Err, IfOk, refl, sym, ap, ◌∙◌, is_some, true≢false}
use Rattle.std.specs.Map.{keys_of}
use Rattle.indexmap.proofs.MapLemmas.{Found-position, index-first}
use Rattle.lt_tree.specs.declared.typed.types.TypeId.{TypeId}
use Rattle.lt_tree.specs.declared.typed.types.TypeRow.{TypeRow}
use Rattle.lt_tree.specs.contracts.typed.types.TypeRowPartialEq.TheImpl as equal
use Rattle.lt_tree.specs.Typing.TypeRows.{type_in, type_of_row, types_of_rows}
use Rattle.lt_table.specs.declared.table.kind.RowFacts.{RowFacts}
use Rattle.lt_table.specs.TableRows.{AreRows, Stays, Makes}
use Rattle.lt_table.proofs.TableRows.{row_at, stands_type}
use Rattle.lt_table.proofs.TableEqual.{equal_types}

found_row : (test : TypeRow → Bool) (es : List (TypeRow × RowFacts)) (i : ℕ) → position test (keys_of es) ≡ Some i
    → (e : TypeRow × RowFacts) × (slice_get es i ≡ Some e) × (test e.0 ≡ true)
found_row test [] i p = absurd (true≢false (sym (ap is_some p)))
found_row test (e ∷ es) zero p = (e, refl, (Found-position test (e ∷ es) zero p).first)
found_row test (e ∷ es) (suc i) p = found_row test es i (index-first test es i (Found-position test (e ∷ es) (suc i) p).first.1)

found_made : (es : List (TypeRow × RowFacts)) (rows : List TypeRow) (r : TypeRow) (t : TypeId) → keys_of es ≡ rows → AreRows [] es
    → position ((equal.eq-value).it r) (keys_of es) ≡ Some t.place → Stays rows (λ types. type_in types t ≡ type_of_row types r)
found_made es rows r t same known found longer more =
    let f = found_row ((equal.eq-value).it r) es t.place found in
    stands_type (types_of_rows rows) t.place f.0 (row_at es rows t f.0 same known f.1) t refl longer more ∙ sym (equal_types r f.0.0 f.2 longer)

pub then_ok : {A E : Type 0} {P Q : A → Type 0} (r : Result A E) → ((a : A) → P a → Q a) → IfOk r P → IfOk r Q
then_ok (Ok a) f h = f a h
then_ok (Err e) f h = tt

pub makes_found : {E : Type 0} (es : List (TypeRow × RowFacts)) (rows : List TypeRow) (r : TypeRow) (k : ℕ) (result : Result TypeId E) → keys_of es ≡ rows → AreRows [] es
    → Some k ≡ position ((equal.eq-value).it r) (keys_of es) → IfOk result (λ id. id.place ≡ k) → Makes rows result (λ types. type_of_row types r)
makes_found es rows r k result same known found is =
    then_ok result (λ id e. found_made es rows r id same known (sym found ∙ ap Some (sym e))) is
