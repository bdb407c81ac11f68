-- The numbers of types as those of pointers are found by ids.
use Rattle.std.proofs.Common.{◌≡◌, ◌<◌, ◌≤◌, ◌+◌, ℕ, List, [], ◌∷◌, ◌++◌, length, map, take, get_or, slice_index_or, Option, unwrap_or, refl, sym, ap, ◌∙◌, add-zero}
use Rattle.std.proofs.lemmas.List.{take_more, map-append}
use Rattle.lt_tree.specs.declared.typed.types.TypeId.{TypeId}
use Rattle.lt_tree.specs.declared.typed.types.TypeRow.{TypeRow}
use Rattle.lt_tree.specs.Typing.Types.{CType, bare}
use Rattle.lt_tree.specs.Typing.TypeRows.{type_in}
use Rattle.lt_meaning.specs.Runs as runs
use Rattle.lt_table.specs.RowsOnce.{AreOnce}
use Rattle.lt_table.specs.TableRows.{Stays}
use Rattle.lt_tables.specs.declared.bare.BareRow.{BareRow}
use Rattle.lt_tables.specs.BareTypes.{AreBareOf, HaveBare, key_of}
use Rattle.lt_tables.specs.TypeNumbers.{number_among}
use Rattle.lt_tables.proofs.BareNumbers.{key_same, found}

module _ (rows : List TypeRow) (once : AreOnce rows) (size : ℕ) (fits : length rows ≤ size) (types : List CType) (its : List BareRow) (void : BareRow) (have : HaveBare rows types its void) (ids : List TypeId) where
  abbrev pub key : TypeId → ℕ
  key id = key_of size (slice_index_or its id.place void)

  number_right : (t : CType) (a : TypeId) → Stays rows (λ all. type_in all a ≡ bare t) → unwrap_or (runs.place_among 0 a.place (map key ids)) (length ids) ≡ number_among (map (type_in types) ids) t
  number_right t a is =
      ap (unwrap_or (runs.place_among 0 a.place (map key ids))) (sym (add-zero (length ids)))
      ∙ found types (bare t) a.place key (λ id. key_same rows once size fits t (type_in types id) a (slice_index_or its id.place void) is (have id)) 0 ids

  module _ (none_at : ℕ) (keys : List ℕ) (places : ℕ → Option ℕ) (none_is : none_at ≡ length ids) (keys_are : keys ≡ map key ids) (places_are : (n : ℕ) → places n ≡ runs.place_among 0 n keys) where
    pub number_is : (t : CType) (a : TypeId) → Stays rows (λ all. type_in all a ≡ bare t) → unwrap_or (places a.place) none_at ≡ number_among (map (type_in types) ids) t
    number_is t a is =
        ap (unwrap_or (places a.place)) none_is ∙ ap (λ o. unwrap_or o (length ids)) (places_are a.place ∙ ap (runs.place_among 0 a.place) keys_are) ∙ number_right t a is

    pub numbers_are : (ts : List CType) (others : List BareRow) → AreBareOf rows ts others → map (λ it. unwrap_or (places it.id.place) none_at) others ≡ map (number_among (map (type_in types) ids)) ts
    numbers_are [] [] each = refl
    numbers_are (t ∷ ts) (a ∷ others) each =
        ap (λ n. n ∷ map (λ it. unwrap_or (places it.id.place) none_at) others) (number_is t a.id each.0.0)
        ∙ ap (λ ns. number_among (map (type_in types) ids) t ∷ ns) (numbers_are ts others each.1)
    numbers_are [] (a ∷ others) each = absurd each
    numbers_are (t ∷ ts) [] each = absurd each

-- one more
pub map_more : {A : Type 0} (f : A → ℕ) (xs : List A) (i : ℕ) (d : A) (old new : List ℕ) (n : ℕ) → i < length xs → old ≡ map f (take i xs) → n ≡ f (get_or xs i d) → new ≡ old ++ n ∷ []
    → new ≡ map f (take (i + 1) xs)
map_more f xs i d old new n within before is after =
    after
    ∙ ap (λ l. l ++ n ∷ []) before
    ∙ ap (λ m. map f (take i xs) ++ m ∷ []) is
    ∙ sym (ap (map f) (take_more xs i d within) ∙ map-append f (take i xs) (get_or xs i d ∷ []))
