-- What is known of types, row by row.
use Rattle.std.proofs.Common.{◌≡◌, ◌<◌, ◌+◌, ◌*◌, min, ℕ, zero, suc, false, List, [], ◌∷◌, ◌++◌, take, length, get_or, slice_index_or, refl, sym, ap, ◌∙◌, subst}
use Rattle.std.proofs.lemmas.List.{take_more}
use Rattle.std.proofs.Math.Nat.{mul_comm, mul_assoc}
use Rattle.lt_model.proofs.Counting.{capped_product}
use Rattle.lt_model.specs.Layout.{most_cells, type_cells}
use Rattle.lt_model.specs.declared.ctype.Quals.{Quals}
use Rattle.lt_tree.specs.declared.typed.types.TypeId.{TypeId}
use Rattle.lt_tree.specs.declared.typed.types.TypeRow.{TypeRow}
use Rattle.lt_tree.specs.declared.typed.types.TypeRow.TheVariants as row
use Rattle.lt_tree.specs.Typing.Types.{CType, Void}
use Rattle.lt_tree.specs.Typing.TypeRows.{type_in, type_of_row, types_of_rows}
use Rattle.lt_table.proofs.TableRows.{types_behind-last}
use Rattle.lt_input_blocks.specs.declared.facts.Facts.{Facts}
use Rattle.lt_input_blocks.specs.declared.facts.Part.TheVariants as part
use Rattle.lt_input_blocks.specs.Facts.{capped, part_cells, plain_facts, no_facts, AreFacts, AreAllFacts, facts_at, HaveFacts}

void_facts : AreFacts Void no_facts
void_facts = record { cells = λ known. refl; function = refl; pointer = refl; elements = refl }

at_place : (types : List CType) (its : List Facts) → AreAllFacts types its → (k : ℕ) → AreFacts (slice_index_or types k Void) (slice_index_or its k no_facts)
at_place [] [] all k = void_facts
at_place (t ∷ ts) (it ∷ its) all zero = all.0
at_place (t ∷ ts) (it ∷ its) all (suc k) = at_place ts its all.1 k
at_place [] (it ∷ its) all k = absurd all
at_place (t ∷ ts) [] all k = absurd all

facts_there : (types : List CType) (its : List Facts) (id : TypeId) (it : Facts) → AreAllFacts types its → it ≡ facts_at its id → AreFacts (type_in types id) it
facts_there types its id it all at = subst (AreFacts (type_in types id)) (sym at) (at_place types its all id.place)

pub have_facts : (types : List CType) (its : List Facts) → AreAllFacts types its → HaveFacts types its
have_facts types its all id = at_place types its all id.place

all_last : (ts : List CType) (its : List Facts) (t : CType) (it : Facts) → AreAllFacts ts its → AreFacts t it → AreAllFacts (ts ++ t ∷ []) (its ++ it ∷ [])
all_last [] [] t it all is = (is, tt)
all_last (u ∷ ts) (other ∷ its) t it all is = (all.0, all_last ts its t it all.1 is)
all_last [] (other ∷ its) t it all is = absurd all
all_last (u ∷ ts) [] t it all is = absurd all

-- one row more
pub row_more : (given : List TypeRow) (k : ℕ) (r : TypeRow) (its new : List Facts) (it : Facts) → k < length given → r ≡ get_or given k r → AreAllFacts (types_of_rows (take k given)) its
    → AreFacts (type_of_row (types_of_rows (take k given)) r) it → new ≡ its ++ it ∷ [] → AreAllFacts (types_of_rows (take (k + 1) given)) new
row_more given k r its new it within at all is last =
    let front = types_of_rows (take k given) in
    let same : front ++ type_of_row front r ∷ [] ≡ types_of_rows (take (k + 1) given) =
    ap (λ x. front ++ type_of_row front x ∷ []) at ∙ sym (types_behind-last [] (take k given) (get_or given k r)) ∙ ap types_of_rows (sym (take_more given k r within)) in
    subst (λ ts. AreAllFacts ts new) same (subst (AreAllFacts (front ++ type_of_row front r ∷ [])) (sym last) (all_last front its (type_of_row front r) it all is))

-- ---- each row

product : (n c p x : ℕ) → capped (c * p) ≡ capped x → capped (capped (n * c) * p) ≡ capped (n * x)
product n c p x is =
    let top = most_cells + 1 in
    capped_product top (n * c) p ∙ ap capped (mul_assoc n c p ∙ mul_comm n (c * p)) ∙ sym (capped_product top (c * p) n) ∙ ap (λ y. min (y * n) top) is ∙ capped_product top x n ∙ ap capped (mul_comm x n)

module _ (types : List CType) (r : TypeRow) (it : Facts) (its : List Facts) (t : TypeId) (target : Facts) (all : AreAllFacts types its) (at : target ≡ facts_at its t) where
  of_row : (s : TypeRow) (made : Facts) → r ≡ s → it ≡ made → AreFacts (type_of_row types s) made → AreFacts (type_of_row types r) it
  of_row s made is same h = subst (λ x. AreFacts (type_of_row types x) it) (sym is) (subst (AreFacts (type_of_row types s)) (sym same) h)

  pub pointer_row : r ≡ row.Pointer t → it ≡ record (plain_facts part.Scalar) { is_pointer_to_function = target.is_function; are_elements_pointers_to_function = target.is_function } → AreFacts (type_of_row types r) it
  pointer_row is same =
      let h = facts_there types its t target all at in
      of_row (row.Pointer t) _ is same (record { cells = λ known. refl; function = refl; pointer = h.function; elements = h.function })

  pub array_row : (n : ℕ) → r ≡ row.Array t n → it ≡ record target { count = capped (n * target.count); is_function = false; is_pointer_to_function = false } → AreFacts (type_of_row types r) it
  array_row n is same =
      let h = facts_there types its t target all at in
      of_row (row.Array t n) _ is same
      (record { cells = λ known. product n target.count (part_cells known target.part) (type_cells known (type_in types t)) (h.cells known); function = refl; pointer = refl; elements = h.elements })

  pub qualified_row : (q : Quals) → r ≡ row.Qualified q t → it ≡ record target { is_function = false; are_elements_pointers_to_function = target.is_pointer_to_function } → AreFacts (type_of_row types r) it
  qualified_row q is same =
      let h = facts_there types its t target all at in
      of_row (row.Qualified q t) _ is same (record { cells = h.cells; function = refl; pointer = h.pointer; elements = h.pointer })
