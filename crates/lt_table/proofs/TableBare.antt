-- The types of rows without qualifiers, also inside, row by row.
use Rattle.std.proofs.Common.{◌≡◌, ℕ, zero, suc, ◌+◌, ◌<◌, ◌⊎◌, inl, inr, List, [], ◌∷◌, ◌++◌, length, take, get_or, slice_get, slice_index_or, Some, is_some, unwrap_or, Result, IfOk, refl, sym, ap, subst, ◌∙◌, arith, true≢false}
use Rattle.std.proofs.lemmas.List.{take_more}
use Rattle.lt_model.specs.declared.ctype.Quals.{Quals}
use Rattle.lt_tree.specs.declared.typed.types.TypeId.{TypeId}
use Rattle.lt_tree.specs.declared.typed.types.TypeRow.{TypeRow}
use Rattle.lt_tree.specs.declared.typed.types.TypeRow.TheVariants as row
use Rattle.lt_tree.specs.declared.typed.types.FunctionType.{FunctionType}
use Rattle.lt_tree.specs.Typing.Types.{CType, Void, Pointer, Array, Function, a_type, bare, all_bare}
use Rattle.lt_tree.specs.Typing.TypeRows.{type_in, all_in, type_of_row, types_of_rows, Continues}
use Rattle.lt_table.specs.TableRows.{Grows, Stays, Makes, IsRowAt}
use Rattle.lt_table.specs.TableBare.{AreBare, BareOf}
use Rattle.lt_table.proofs.TableRows.{continues_through}
use Rattle.lt_table.proofs.TableFound.{then_ok}

-- ---- lists of ids

bare_of-last : (ids ts us : List TypeId) (t u : TypeId) → BareOf ids ts us → slice_get ids t.place ≡ Some u → BareOf ids (ts ++ t ∷ []) (us ++ u ∷ [])
bare_of-last ids [] [] t u all at = (at, tt)
bare_of-last ids (x ∷ ts) (y ∷ us) t u all at = (all.0, bare_of-last ids ts us t u all.1 at)
bare_of-last ids [] (y ∷ us) t u all at = absurd all
bare_of-last ids (x ∷ ts) [] t u all at = absurd all

pub bare_of-more : (ids ts us vs : List TypeId) (k : ℕ) (d u : TypeId) → BareOf ids (take k ts) us → k < length ts → slice_get ids (get_or ts k d).place ≡ Some u → vs ≡ us ++ u ∷ []
    → BareOf ids (take (k + 1) ts) vs
bare_of-more ids ts us vs k d u all within at is =
    subst (BareOf ids (take (k + 1) ts)) (sym is) (subst (λ l. BareOf ids l (us ++ u ∷ [])) (sym (take_more ts k d within)) (bare_of-last ids (take k ts) us (get_or ts k d) u all at))

some_is : {A : Type 0} {x y : A} → Some x ≡ Some y → x ≡ y
some_is {A} {x} e = ap (λ r. unwrap_or r x) e

last_or : (ids : List TypeId) (id u : TypeId) (k : ℕ) → slice_get (ids ++ id ∷ []) k ≡ Some u → (slice_get ids k ≡ Some u) ⊎ ((k ≡ length ids) × (id ≡ u))
last_or [] id u zero at = inr (refl, some_is at)
last_or [] id u (suc k) at = absurd (true≢false (sym (ap is_some at)))
last_or (x ∷ ids) id u zero at = inl at
last_or (x ∷ ids) id u (suc k) at = elim (last_or ids id u k at) [ inl h ↦ inl h | inr h ↦ inr (omega (arith, h.0), h.1) ]

pub are_bare-grown : (old new : List TypeRow) (ids : List TypeId) → Grows old new → AreBare old ids → AreBare new ids
are_bare-grown old new ids grows all t u at longer more = all t u at longer (continues_through (types_of_rows old) (types_of_rows new) longer grows more)

pub are_bare-last : (rows : List TypeRow) (ids vs : List TypeId) (t id : TypeId) → AreBare rows ids → t.place ≡ length ids → Stays rows (λ types. type_in types id ≡ bare (type_in types t)) → vs ≡ ids ++ id ∷ []
    → AreBare rows vs
are_bare-last rows ids vs t id all last made is s u at longer more =
    elim (last_or ids id u s.place (subst (λ l. slice_get l s.place ≡ Some u) is at)) [
      | inl h ↦ all s u h longer more
      | inr h ↦
          let place : t.place ≡ s.place = last ∙ sym h.0 in
          ap (type_in longer) (sym h.1) ∙ made longer more ∙ ap (λ k. bare (slice_index_or longer k Void)) place
    ]

pub all_bare_of : (rows : List TypeRow) (ids ts us : List TypeId) → AreBare rows ids → BareOf ids ts us → Stays rows (λ types. all_in types us ≡ all_bare (all_in types ts))
all_bare_of rows ids [] [] all h longer more = refl
all_bare_of rows ids (t ∷ ts) (u ∷ us) all h longer more =
    ap (λ x. a_type x (all_in longer us)) (all t u h.0 longer more) ∙ ap (a_type (bare (type_in longer t))) (all_bare_of rows ids ts us all h.1 longer more)
all_bare_of rows ids [] (u ∷ us) all h longer more = absurd h
all_bare_of rows ids (t ∷ ts) [] all h longer more = absurd h

-- ---- a row

module _ {E : Type 0} (old new : List TypeRow) (ids : List TypeId) (t : TypeId) (r : TypeRow) (result : Result TypeId E)
    (grows : Grows old new) (all : AreBare old ids) (at : IsRowAt old t r) where
  first : (longer : List CType) → Continues (types_of_rows new) longer → Continues (types_of_rows old) longer
  first longer more = continues_through (types_of_rows old) (types_of_rows new) longer grows more

  pub bare_pointer : (u v : TypeId) → r ≡ row.Pointer u → slice_get ids u.place ≡ Some v → Makes new result (λ types. Pointer (type_in types v)) → Makes new result (λ types. bare (type_in types t))
  bare_pointer u v is there made = then_ok result (λ id m longer more.
      m longer more ∙ ap Pointer (all u v there longer (first longer more)) ∙ sym (ap bare (at.is longer (first longer more) ∙ ap (type_of_row longer) is))) made

  pub bare_array : (u v : TypeId) (n : ℕ) → r ≡ row.Array u n → slice_get ids u.place ≡ Some v → Makes new result (λ types. Array (type_in types v) n) → Makes new result (λ types. bare (type_in types t))
  bare_array u v n is there made = then_ok result (λ id m longer more.
      m longer more ∙ ap (λ x. Array x n) (all u v there longer (first longer more)) ∙ sym (ap bare (at.is longer (first longer more) ∙ ap (type_of_row longer) is))) made

  pub bare_function : (f : FunctionType) (v : TypeId) (vs : List TypeId) → r ≡ row.Function f → slice_get ids f.result.place ≡ Some v → BareOf ids f.parameters.items vs
      → Makes new result (λ types. Function (type_in types v) (all_in types vs) f.dots) → Makes new result (λ types. bare (type_in types t))
  bare_function f v vs is there these made = then_ok result (λ id m longer more.
      m longer more ∙ ap (λ x. Function x (all_in longer vs) f.dots) (all f.result v there longer (first longer more))
      ∙ ap (λ xs. Function (bare (type_in longer f.result)) xs f.dots) (all_bare_of old ids f.parameters.items vs all these longer (first longer more))
      ∙ sym (ap bare (at.is longer (first longer more) ∙ ap (type_of_row longer) is))) made

pub bare_qualified : {E : Type 0} (rows : List TypeRow) (ids : List TypeId) (t : TypeId) (r : TypeRow) (result : Result TypeId E) → AreBare rows ids → IsRowAt rows t r → (q : Quals) (u : TypeId) → r ≡ row.Qualified q u
    → IfOk result (λ v. slice_get ids u.place ≡ Some v) → Makes rows result (λ types. bare (type_in types t))
bare_qualified rows ids t r result all at q u is found = then_ok result (λ v there longer more.
    all u v there longer more ∙ sym (ap bare (at.is longer more ∙ ap (type_of_row longer) is))) found

bare_row_other : (types : List CType) (r : TypeRow) → ((u : TypeId) → r ≡ row.Pointer u → ⊥) → ((u : TypeId) (n : ℕ) → r ≡ row.Array u n → ⊥) → ((f : FunctionType) → r ≡ row.Function f → ⊥)
    → ((q : Quals) (u : TypeId) → r ≡ row.Qualified q u → ⊥) → bare (type_of_row types r) ≡ type_of_row types r
bare_row_other types (row.Pointer u) a b c d = absurd (a u refl)
bare_row_other types (row.Array u n) a b c d = absurd (b u n refl)
bare_row_other types (row.Function f) a b c d = absurd (c f refl)
bare_row_other types (row.Qualified q u) a b c d = absurd (d q u refl)
bare_row_other types row.Void a b c d = refl
bare_row_other types (row.Num s) a b c d = refl
bare_row_other types (row.Struct k) a b c d = refl
bare_row_other types row.Floating a b c d = refl

pub bare_other : (rows : List TypeRow) (t : TypeId) (r : TypeRow) → IsRowAt rows t r → ((u : TypeId) → r ≡ row.Pointer u → ⊥) → ((u : TypeId) (n : ℕ) → r ≡ row.Array u n → ⊥) → ((f : FunctionType) → r ≡ row.Function f → ⊥)
    → ((q : Quals) (u : TypeId) → r ≡ row.Qualified q u → ⊥) → Stays rows (λ types. type_in types t ≡ bare (type_in types t))
bare_other rows t r at a b c d longer more =
    at.is longer more ∙ sym (bare_row_other longer r a b c d) ∙ sym (ap bare (at.is longer more))
