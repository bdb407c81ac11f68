-- Types without qualifiers, row by row.
use Rattle.std.proofs.Common.{◌≡◌, ℕ, zero, suc, ◌+◌, ◌<◌, Bool, false, ◌&&◌, List, [], ◌∷◌, ◌++◌, length, map, take, get_or, slice_index_or, refl, sym, ap, ◌∙◌, subst}
use Rattle.std.specs.List.{list_all}
use Rattle.std.proofs.lemmas.List.{take_more}
use Rattle.lt_tree.specs.declared.typed.types.TypeId.{TypeId}
use Rattle.lt_model.specs.declared.ctype.Quals.{Quals}
use Rattle.lt_tree.specs.declared.typed.types.TypeRow.{TypeRow}
use Rattle.lt_tree.specs.declared.typed.types.TypeRow.TheVariants as row
use Rattle.lt_tree.specs.Typing.Types.{CType, CTypes, a_type, Void, Pointer, Array, Function, bare, all_bare}
use Rattle.lt_tree.specs.Typing.TypeRows.{type_in, all_in, type_of_row, types_of_rows, Continues}
use Rattle.lt_table.specs.TableRows.{Grows, Stays}
use Rattle.lt_table.proofs.TableRows.{continues_through, types_behind-last}
use Rattle.lt_tables.specs.declared.bare.BareRow.{BareRow}
use Rattle.lt_tables.specs.BareTypes.{is_bare, are_bare, IsBareOf, AreBareOf}

at_place : (rows : List TypeRow) (types : List CType) (its : List BareRow) (void : BareRow) → AreBareOf rows types its → IsBareOf rows Void void
    → (k : ℕ) → IsBareOf rows (slice_index_or types k Void) (slice_index_or its k void)
at_place rows [] [] void all none k = none
at_place rows (t ∷ ts) (it ∷ its) void all none zero = all.0
at_place rows (t ∷ ts) (it ∷ its) void all none (suc k) = at_place rows ts its void all.1 none k
at_place rows [] (it ∷ its) void all none k = absurd all
at_place rows (t ∷ ts) [] void all none k = absurd all

pub bare_at : (rows : List TypeRow) (types : List CType) (its : List BareRow) (void it : BareRow) (t : TypeId) → AreBareOf rows types its → IsBareOf rows Void void
    → it ≡ slice_index_or its t.place void → IsBareOf rows (type_in types t) it
bare_at rows types its void it t all none is = subst (IsBareOf rows (type_in types t)) (sym is) (at_place rows types its void all none t.place)

pub bare_grown : (old new : List TypeRow) (t : CType) (it : BareRow) → Grows old new → IsBareOf old t it → IsBareOf new t it
bare_grown old new t it grows is = (λ longer more. is.0 longer (continues_through (types_of_rows old) (types_of_rows new) longer grows more), is.1)

pub all_grown : (old new : List TypeRow) (ts : List CType) (its : List BareRow) → Grows old new → AreBareOf old ts its → AreBareOf new ts its
all_grown old new [] [] grows all = tt
all_grown old new (t ∷ ts) (it ∷ its) grows all = (bare_grown old new t it grows all.0, all_grown old new ts its grows all.1)
all_grown old new [] (it ∷ its) grows all = absurd all
all_grown old new (t ∷ ts) [] grows all = absurd all

all_last : (rows : List TypeRow) (ts : List CType) (its : List BareRow) (t : CType) (it : BareRow) → AreBareOf rows ts its → IsBareOf rows t it → AreBareOf rows (ts ++ t ∷ []) (its ++ it ∷ [])
all_last rows [] [] t it all is = (is, tt)
all_last rows (u ∷ ts) (other ∷ its) t it all is = (all.0, all_last rows ts its t it all.1 is)
all_last rows [] (other ∷ its) t it all is = absurd all
all_last rows (u ∷ ts) [] t it all is = absurd all

-- one row more
pub row_more : (rows given : List TypeRow) (k : ℕ) (row : TypeRow) (its new : List BareRow) (it : BareRow) → k < length given → row ≡ get_or given k row
    → AreBareOf rows (types_of_rows (take k given)) its → IsBareOf rows (type_of_row (types_of_rows (take k given)) row) it → new ≡ its ++ it ∷ [] → AreBareOf rows (types_of_rows (take (k + 1) given)) new
row_more rows given k row its new it within at all is last =
    let front = types_of_rows (take k given) in
    let same : front ++ type_of_row front row ∷ [] ≡ types_of_rows (take (k + 1) given) =
    ap (λ r. front ++ type_of_row front r ∷ []) at ∙ sym (types_behind-last [] (take k given) (get_or given k row)) ∙ ap types_of_rows (sym (take_more given k row within)) in
    subst (λ ts. AreBareOf rows ts new) same (subst (AreBareOf rows (front ++ type_of_row front row ∷ [])) (sym last) (all_last rows front its (type_of_row front row) it all is))

-- ---- rows that are made of others

-- an id that is made, as one of a row
abbrev pub Made : List TypeRow → TypeId → (List CType → CType) → Type 0
Made rows id made = Stays rows (λ types. type_in types id ≡ made types)

module _ (old new : List TypeRow) (grows : Grows old new) (id : TypeId) where
  before : (longer : List CType) → Continues (types_of_rows new) longer → Continues (types_of_rows old) longer
  before longer more = continues_through (types_of_rows old) (types_of_rows new) longer grows more

  pub bare_pointer : (t : CType) (it : BareRow) → IsBareOf old t it → Made new id (λ types. Pointer (type_in types it.id)) → IsBareOf new (Pointer t) (record { id = id; is_bare = it.is_bare })
  bare_pointer t it is made = (λ longer more. made longer more ∙ ap Pointer (is.0 longer (before longer more)), is.1)

  pub bare_array : (t : CType) (n : ℕ) (it : BareRow) → IsBareOf old t it → Made new id (λ types. Array (type_in types it.id) n) → IsBareOf new (Array t n) (record { id = id; is_bare = it.is_bare })
  bare_array t n it is made = (λ longer more. made longer more ∙ ap (λ u. Array u n) (is.0 longer (before longer more)), is.1)

  pub bare_function : (t : CType) (ts : CTypes) (dots flag : Bool) (it : BareRow) (ids : List TypeId) → IsBareOf old t it → Stays old (λ types. all_in types ids ≡ all_bare ts) → flag ≡ are_bare ts
      → Made new id (λ types. Function (type_in types it.id) (all_in types ids) dots) → IsBareOf new (Function t ts dots) (record { id = id; is_bare = it.is_bare && flag })
  bare_function t ts dots flag it ids is all flags made = (
    λ longer more. made longer more ∙ ap (λ u. Function u (all_in longer ids) dots) (is.0 longer (before longer more)) ∙ ap (λ us. Function (bare t) us dots) (all longer (before longer more)),
    ap (λ b. b && flag) is.1 ∙ ap (λ b. is_bare t && b) flags,
  )

pub bare_parameters : (rows : List TypeRow) (types : List CType) (its : List BareRow) (void : BareRow) (ts : List TypeId) → AreBareOf rows types its → IsBareOf rows Void void
    → Stays rows (λ longer. all_in longer (map (λ t. (slice_index_or its t.place void).id) ts) ≡ all_bare (all_in types ts))
bare_parameters rows types its void [] all none longer more = refl
bare_parameters rows types its void (t ∷ ts) all none longer more =
    let is = at_place rows types its void all none t.place in
    ap (λ u. a_type u (all_in longer (map (λ t. (slice_index_or its t.place void).id) ts))) (is.0 longer more)
    ∙ ap (a_type (bare (type_in types t))) (bare_parameters rows types its void ts all none longer more)

pub parameters_flag : (rows : List TypeRow) (types : List CType) (its : List BareRow) (void : BareRow) (ts : List TypeId) → AreBareOf rows types its → IsBareOf rows Void void
    → list_all (λ t. (slice_index_or its t.place void).is_bare) ts ≡ are_bare (all_in types ts)
parameters_flag rows types its void [] all none = refl
parameters_flag rows types its void (t ∷ ts) all none =
    let is = at_place rows types its void all none t.place in
    ap (λ b. b && list_all (λ t. (slice_index_or its t.place void).is_bare) ts) is.1 ∙ ap (λ b. is_bare (type_in types t) && b) (parameters_flag rows types its void ts all none)

module _ (old new : List TypeRow) (grows : Grows old new) (id : TypeId) (types : List CType) (its : List BareRow) (void it : BareRow) (r : TypeRow) where
  pub pointer_row : (t : TypeId) → r ≡ row.Pointer t → it ≡ slice_index_or its t.place void → Made new id (λ longer. Pointer (type_in longer it.id)) → AreBareOf old types its → IsBareOf old Void void
      → IsBareOf new (type_of_row types r) (record { id = id; is_bare = it.is_bare })
  pointer_row t is at made all none =
      let P : TypeRow → Type 0 = λ x. IsBareOf new (type_of_row types x) (record { id = id; is_bare = it.is_bare }) in
      subst P (sym is) (bare_pointer old new grows id (type_in types t) it (bare_at old types its void it t all none at) made)

  pub array_row : (t : TypeId) (n : ℕ) → r ≡ row.Array t n → it ≡ slice_index_or its t.place void → Made new id (λ longer. Array (type_in longer it.id) n) → AreBareOf old types its → IsBareOf old Void void
      → IsBareOf new (type_of_row types r) (record { id = id; is_bare = it.is_bare })
  array_row t n is at made all none =
      let P : TypeRow → Type 0 = λ x. IsBareOf new (type_of_row types x) (record { id = id; is_bare = it.is_bare }) in
      subst P (sym is) (bare_array old new grows id (type_in types t) n it (bare_at old types its void it t all none at) made)

pub qualified_row : (rows : List TypeRow) (types : List CType) (its : List BareRow) (void it : BareRow) (r : TypeRow) (q : Quals) (t : TypeId) → r ≡ row.Qualified q t → it ≡ slice_index_or its t.place void
    → AreBareOf rows types its → IsBareOf rows Void void → IsBareOf rows (type_of_row types r) (record { id = it.id; is_bare = false })
qualified_row rows types its void it r q t is at all none =
    let P : TypeRow → Type 0 = λ x. IsBareOf rows (type_of_row types x) (record { id = it.id; is_bare = false }) in
    subst P (sym is) ((bare_at rows types its void it t all none at).0, refl)

pub function_row : (old new : List TypeRow) (grows : Grows old new) (id : TypeId) (types : List CType) (its : List BareRow) (void it : BareRow) (result : TypeId) (ts list ids : List TypeId) (dots flag : Bool)
    → it ≡ slice_index_or its result.place void → list ≡ ts → ids ≡ map (λ t. (slice_index_or its t.place void).id) list → flag ≡ list_all (λ t. (slice_index_or its t.place void).is_bare) list
    → Made new id (λ longer. Function (type_in longer it.id) (all_in longer ids) dots) → AreBareOf old types its → IsBareOf old Void void
    → IsBareOf new (Function (type_in types result) (all_in types ts) dots) (record { id = id; is_bare = it.is_bare && flag })
function_row old new grows id types its void it result ts list ids dots flag at same are flags made all none =
    bare_function old new grows id (type_in types result) (all_in types ts) dots flag it ids (bare_at old types its void it result all none at)
    (λ longer more. ap (all_in longer) are ∙ bare_parameters old types its void list all none longer more ∙ ap (λ l. all_bare (all_in types l)) same)
    (flags ∙ parameters_flag old types its void list all none ∙ ap (λ l. are_bare (all_in types l)) same) made
