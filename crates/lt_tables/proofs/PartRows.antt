-- What types are made of, row by row.
use Rattle.std.proofs.Common.{◌≡◌, ◌<◌, ◌+◌, ◌*◌, ◌^◌, min, ℕ, zero, suc, List, [], ◌∷◌, ◌++◌, map, take, length, get_or, slice_index_or, Option, Some, None, refl, sym, ap, ◌∙◌, subst, arith}
use Rattle.std.proofs.lemmas.List.{take_more}
use Rattle.lt_model.specs.declared.scalar.DataModel.{DataModel}
use Rattle.lt_model.specs.declared.scalar.Scalar.{Scalar}
use Rattle.lt_model.specs.declared.ctype.Quals.{Quals}
use Rattle.lt_model.specs.declared.sizes.Extent as model
use Rattle.lt_model.specs.Layout.{then_some, within, resized, scalar_extent, pointer_extent}
use Rattle.lt_tree.specs.declared.typed.types.TypeId.{TypeId}
use Rattle.lt_tree.specs.declared.typed.types.TypeRow.{TypeRow}
use Rattle.lt_tree.specs.declared.typed.types.TypeRow.TheVariants as row
use Rattle.lt_tree.specs.Typing.Types.{CType, Void, element}
use Rattle.lt_tree.specs.Typing.TypeRows.{type_in, type_of_row, types_of_rows}
use Rattle.lt_tree.specs.Typing.Extents.{elements, single_extent, type_extent}
use Rattle.lt_table.specs.declared.structs.extent.Extent.{Extent}
use Rattle.lt_table.specs.StructTables.{extent_value}
use Rattle.lt_table.proofs.TableRows.{types_behind-last}
use Rattle.lt_table.proofs.TableElements.{count_array}
use Rattle.lt_table.proofs.StructRows.{within_capped}
use Rattle.lt_tables.specs.declared.type_parts.Single.{Single}
use Rattle.lt_tables.specs.declared.type_parts.Single.TheVariants as single
use Rattle.lt_tables.specs.declared.type_parts.TypeParts.{TypeParts}
use Rattle.lt_tables.specs.TypeParts.{parts_extent, ArePartsOf, AreAllParts, HaveParts, void_parts}
use Rattle.lt_tables.specs.Layouts.{size_of_extent, size_with}

-- a type that is no array
abbrev pub plain : Single → TypeParts
plain it = record { itself = it; element = it; count = 1 }

module _ (m : DataModel) where
  parts_of_void : ArePartsOf m Void (plain single.Other)
  parts_of_void = record { itself = λ known. refl; element = λ known. refl; count = refl }

  at_place : (types : List CType) (its : List TypeParts) → AreAllParts m types its → (k : ℕ) → ArePartsOf m (slice_index_or types k Void) (slice_index_or its k (plain single.Other))
  at_place [] [] all k = parts_of_void
  at_place (t ∷ ts) (it ∷ its) all zero = all.0
  at_place (t ∷ ts) (it ∷ its) all (suc k) = at_place ts its all.1 k
  at_place [] (it ∷ its) all k = absurd all
  at_place (t ∷ ts) [] all k = absurd all

  pub parts_there : (types : List CType) (its : List TypeParts) (id : TypeId) (it : TypeParts) → AreAllParts m types its → it ≡ slice_index_or its id.place (plain single.Other) → ArePartsOf m (type_in types id) it
  parts_there types its id it all at = subst (ArePartsOf m (type_in types id)) (sym at) (at_place types its all id.place)

  lengths : (types : List CType) (its : List TypeParts) → AreAllParts m types its → length its ≡ length types
  lengths [] [] all = refl
  lengths (t ∷ ts) (it ∷ its) all = ap suc (lengths ts its all.1)
  lengths [] (it ∷ its) all = absurd all
  lengths (t ∷ ts) [] all = absurd all

  pub have_parts : (types : List CType) (its : List TypeParts) → AreAllParts m types its → HaveParts m types its
  have_parts types its all = (lengths types its all, at_place types its all)

  all_last : (ts : List CType) (its : List TypeParts) (t : CType) (it : TypeParts) → AreAllParts m ts its → ArePartsOf m t it → AreAllParts m (ts ++ t ∷ []) (its ++ it ∷ [])
  all_last [] [] t it all is = (is, tt)
  all_last (u ∷ ts) (other ∷ its) t it all is = (all.0, all_last ts its t it all.1 is)
  all_last [] (other ∷ its) t it all is = absurd all
  all_last (u ∷ ts) [] t it all is = absurd all

  -- one row more
  pub row_more : (given : List TypeRow) (k : ℕ) (r : TypeRow) (its new : List TypeParts) (it : TypeParts) → k < length given → r ≡ get_or given k r → AreAllParts m (types_of_rows (take k given)) its
      → ArePartsOf m (type_of_row (types_of_rows (take k given)) r) it → new ≡ its ++ it ∷ [] → AreAllParts m (types_of_rows (take (k + 1) given)) new
  row_more given k r its new it within at all is last =
      let front = types_of_rows (take k given) in
      let same : front ++ type_of_row front r ∷ [] ≡ types_of_rows (take (k + 1) given) =
      ap (λ x. front ++ type_of_row front x ∷ []) at ∙ sym (types_behind-last [] (take k given) (get_or given k r)) ∙ ap types_of_rows (sym (take_more given k r within)) in
      subst (λ ts. AreAllParts m ts new) same (subst (AreAllParts m (front ++ type_of_row front r ∷ [])) (sym last) (all_last front its (type_of_row front r) it all is))

  -- ---- each row

  module _ (types : List CType) (r : TypeRow) (it : TypeParts) where
    of_row : (s : TypeRow) (made : TypeParts) → r ≡ s → it ≡ made → ArePartsOf m (type_of_row types s) made → ArePartsOf m (type_of_row types r) it
    of_row s made is same h = subst (λ x. ArePartsOf m (type_of_row types x) it) (sym is) (subst (ArePartsOf m (type_of_row types s)) (sym same) h)

    pub num_row : (s : Scalar) (e : Extent) → r ≡ row.Num s → extent_value e ≡ scalar_extent m s → it ≡ plain (single.Scalar e) → ArePartsOf m (type_of_row types r) it
    num_row s e is extent same = of_row (row.Num s) (plain (single.Scalar e)) is same (record { itself = λ known. ap Some extent; element = λ known. ap Some extent; count = refl })

    pub pointer_row : (t : TypeId) (e : Extent) → r ≡ row.Pointer t → extent_value e ≡ pointer_extent m → it ≡ plain (single.Scalar e) → ArePartsOf m (type_of_row types r) it
    pointer_row t e is extent same = of_row (row.Pointer t) (plain (single.Scalar e)) is same (record { itself = λ known. ap Some extent; element = λ known. ap Some extent; count = refl })

    pub struct_row : (k : ℕ) → r ≡ row.Struct k → it ≡ plain (single.Struct k) → ArePartsOf m (type_of_row types r) it
    struct_row k is same = of_row (row.Struct k) (plain (single.Struct k)) is same (record { itself = λ known. refl; element = λ known. refl; count = refl })

    pub array_row : (its : List TypeParts) (t : TypeId) (n : ℕ) (part : TypeParts) → r ≡ row.Array t n → AreAllParts m types its → part ≡ slice_index_or its t.place (plain single.Other)
        → it ≡ record { itself = single.Other; element = part.element; count = min (min part.count (2 ^ 64) * n) (2 ^ 64) } → ArePartsOf m (type_of_row types r) it
    array_row its t n part is all at same =
        let h = parts_there types its t part all at in
        of_row (row.Array t n) _ is same (record { itself = λ known. refl; element = h.element; count = count_array part.count n (elements (type_in types t)) h.count })

    pub qualified_row : (its : List TypeParts) (q : Quals) (t : TypeId) (part : TypeParts) → r ≡ row.Qualified q t → AreAllParts m types its → part ≡ slice_index_or its t.place (plain single.Other)
        → it ≡ plain part.itself → ArePartsOf m (type_of_row types r) it
    qualified_row its q t part is all at same =
        let h = parts_there types its t part all at in
        of_row (row.Qualified q t) (plain part.itself) is same (record { itself = h.itself; element = h.itself; count = refl })

    -- of the kinds of rows that have no extent
    abbrev pub IsWithout : TypeRow → Type 0
    IsWithout row.Void = Unit {0}
    IsWithout (row.Function f) = Unit {0}
    IsWithout row.Floating = Unit {0}
    IsWithout _ = ⊥

    pub other_row : (s : TypeRow) → IsWithout s → r ≡ s → it ≡ plain single.Other → ArePartsOf m (type_of_row types r) it
    other_row row.Void without is same = of_row row.Void (plain single.Other) is same (record { itself = λ known. refl; element = λ known. refl; count = refl })
    other_row (row.Function f) without is same = of_row (row.Function f) (plain single.Other) is same (record { itself = λ known. refl; element = λ known. refl; count = refl })
    other_row row.Floating without is same = of_row row.Floating (plain single.Other) is same (record { itself = λ known. refl; element = λ known. refl; count = refl })
    other_row (row.Num s) without is same = absurd without
    other_row (row.Pointer t) without is same = absurd without
    other_row (row.Array t n) without is same = absurd without
    other_row (row.Struct k) without is same = absurd without
    other_row (row.Qualified q t) without is same = absurd without

  -- ---- extents

  pub extent_is : (known : ℕ → Option model.Extent) (t : CType) (it : TypeParts) → ArePartsOf m t it → parts_extent known it ≡ type_extent m known t
  extent_is known t it is =
      ap (λ o. then_some o (λ e. resized e (within (e.size * min it.count (2 ^ 64))))) (is.element known) ∙ sized (single_extent m known (element t))
    where
      sized : (o : Option model.Extent) → then_some o (λ e. resized e (within (e.size * min it.count (2 ^ 64)))) ≡ then_some o (λ e. resized e (within (e.size * elements t)))
      sized None = refl
      sized (Some e) = ap (resized e) (within_capped e.size (elements t) it.count is.count)

  sizes_from : (known : ℕ → Option model.Extent) (types : List CType) (its : List TypeParts) → length its ≡ length types → ((k : ℕ) → ArePartsOf m (slice_index_or types k Void) (slice_index_or its k void_parts))
      → map (λ it. size_of_extent (parts_extent known it)) its ≡ map (size_with m known) types
  sizes_from known [] [] long is = refl
  sizes_from known (t ∷ ts) (it ∷ its) long is =
      ap (λ o. size_of_extent o ∷ map (λ it. size_of_extent (parts_extent known it)) its) (extent_is known t it (is 0)) ∙ ap (λ l. size_with m known t ∷ l) (sizes_from known ts its (omega (arith, long)) (λ k. is (suc k)))
  sizes_from known [] (it ∷ its) long is = absurd (omega (arith, long))
  sizes_from known (t ∷ ts) [] long is = absurd (omega (arith, long))

  pub sizes_are : (known : ℕ → Option model.Extent) (types : List CType) (its : List TypeParts) → HaveParts m types its → map (λ it. size_of_extent (parts_extent known it)) its ≡ map (size_with m known) types
  sizes_are known types its h = sizes_from known types its h.0 h.1
