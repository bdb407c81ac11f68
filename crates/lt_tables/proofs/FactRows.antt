-- What is known of types, row by row.
use Rattle.std.proofs.Common.{◌≡◌, ◌<◌, ◌+◌, ℕ, zero, suc, false, List, [], ◌∷◌, ◌++◌, length, map, take, drop, get_or, slice_index_or, refl, sym, ap, ◌∙◌, subst, arith, drop-cons}
use Rattle.std.proofs.lemmas.List.{take_more, take-append-drop, length-take-le, length-map}
use Rattle.lt_model.specs.declared.ctype.Quals.{Quals}
use Rattle.lt_model.specs.declared.cell.CellType.TheVariants as cell
use Rattle.lt_model.specs.declared.scalar.Scalar.TheVariants as S
use Rattle.lt_tree.specs.declared.typed.types.TypeId.{TypeId}
use Rattle.lt_tree.specs.declared.typed.types.TypeRow.{TypeRow}
use Rattle.lt_tree.specs.declared.typed.types.TypeRow.TheVariants as row
use Rattle.lt_tree.specs.Typing.Types.{CType, Void}
use Rattle.lt_tree.specs.Typing.TypeRows.{type_of_row, types_behind, types_of_rows}
use Rattle.lt_tree.specs.Typing.Programs.{Program}
use Rattle.lt_table.specs.TableRows.{with_type}
use Rattle.lt_table.proofs.TableRows.{continues_behind, types_behind-last, length-types_behind}
use Rattle.lt_tables.specs.declared.facts.TypeFacts.{TypeFacts}
use Rattle.lt_tables.specs.Lookups.{AreFactsOf, HaveFacts}
use Rattle.lt_tables.specs.TypeNumbers.{AreAllFacts, number_among}

module _ (program : Program) where
  at_place : (types : List CType) (known : List TypeFacts) (void : TypeFacts) → AreAllFacts program types known → AreFactsOf program Void void
      → (k : ℕ) → AreFactsOf program (slice_index_or types k Void) (slice_index_or known k void)
  at_place [] [] void all none k = none
  at_place (t ∷ ts) (it ∷ its) void all none zero = all.0
  at_place (t ∷ ts) (it ∷ its) void all none (suc k) = at_place ts its void all.1 none k
  at_place [] (it ∷ its) void all none k = absurd all
  at_place (t ∷ ts) [] void all none k = absurd all

  pub have_facts : (types : List CType) (known : List TypeFacts) (void : TypeFacts) → AreAllFacts program types known → AreFactsOf program Void void → HaveFacts program types known void
  have_facts types known void all none id = at_place types known void all none id.place

  all_last : (ts : List CType) (its : List TypeFacts) (t : CType) (it : TypeFacts) → AreAllFacts program ts its → AreFactsOf program t it → AreAllFacts program (ts ++ t ∷ []) (its ++ it ∷ [])
  all_last [] [] t it all is = (is, tt)
  all_last (u ∷ ts) (other ∷ its) t it all is = (all.0, all_last ts its t it all.1 is)
  all_last [] (other ∷ its) t it all is = absurd all
  all_last (u ∷ ts) [] t it all is = absurd all

  -- one row more
  pub row_more : (given : List TypeRow) (k : ℕ) (row : TypeRow) (its new : List TypeFacts) (it : TypeFacts) → k < length given → row ≡ get_or given k row
      → AreAllFacts program (types_of_rows (take k given)) its → AreFactsOf program (type_of_row (types_of_rows (take k given)) row) it → new ≡ its ++ it ∷ [] → AreAllFacts program (types_of_rows (take (k + 1) given)) new
  row_more given k row its new it within at all is last =
      let front = types_of_rows (take k given) in
      let same : front ++ type_of_row front row ∷ [] ≡ types_of_rows (take (k + 1) given) =
      ap (λ r. front ++ type_of_row front r ∷ []) at ∙ sym (types_behind-last [] (take k given) (get_or given k row)) ∙ ap types_of_rows (sym (take_more given k row within)) in
      subst (λ ts. AreAllFacts program ts new) same (subst (AreAllFacts program (front ++ type_of_row front row ∷ [])) (sym last) (all_last front its (type_of_row front row) it all is))

  -- ---- rows that are made of others

  pub array_row : (types : List CType) (known : List TypeFacts) (void it : TypeFacts) (r : TypeRow) (number n : ℕ) (t : TypeId) → r ≡ row.Array t n → it ≡ slice_index_or known t.place void
      → AreAllFacts program types known → AreFactsOf program Void void → number ≡ number_among program.types (type_of_row types r)
      → AreFactsOf program (type_of_row types r) (record { cell = cell.Pointer number; scalar = S.Int; is_struct = false; is_void = false; is_constant = it.is_constant })
  array_row types known void it r number n t is at all none same =
      let facts = at_place types known void all none t.place in
      let P : TypeRow → Type 0 = λ x. number ≡ number_among program.types (type_of_row types x)
      → AreFactsOf program (type_of_row types x) (record { cell = cell.Pointer number; scalar = S.Int; is_struct = false; is_void = false; is_constant = it.is_constant }) in
      subst P (sym is) (λ e. record { cell = ap cell.Pointer e; scalar = refl; holds_struct = refl; holds_void = refl; holds_constant = ap (λ f. f.is_constant) at ∙ facts.holds_constant }) same

  pub qualified_row : (types : List CType) (known : List TypeFacts) (void it : TypeFacts) (r : TypeRow) (q : Quals) (t : TypeId) → r ≡ row.Qualified q t → it ≡ slice_index_or known t.place void
      → AreAllFacts program types known → AreFactsOf program Void void
      → AreFactsOf program (type_of_row types r) (record { cell = it.cell; scalar = it.scalar; is_struct = it.is_struct; is_void = it.is_void; is_constant = q.constant })
  qualified_row types known void it r q t is at all none =
      let facts = at_place types known void all none t.place in
      let P : TypeRow → Type 0 = λ x. AreFactsOf program (type_of_row types x) (record { cell = it.cell; scalar = it.scalar; is_struct = it.is_struct; is_void = it.is_void; is_constant = q.constant }) in
      subst P (sym is)
      (record {
        cell = ap (λ f. f.cell) at ∙ facts.cell;
        scalar = ap (λ f. f.scalar) at ∙ facts.scalar;
        holds_struct = ap (λ f. f.is_struct) at ∙ facts.holds_struct;
        holds_void = ap (λ f. f.is_void) at ∙ facts.holds_void;
        holds_constant = refl;
      })

-- ---- the number of a row

types_split : (types : List CType) (a b : List TypeRow) → types_behind types (a ++ b) ≡ types_behind (types_behind types a) b
types_split types [] b = refl
types_split types (r ∷ a) b = types_split (with_type types r) a b

at_seam : (f : CType → ℕ) (front : List CType) (t : CType) (more : List CType) (k : ℕ) → length front ≡ k → get_or (map f ((front ++ t ∷ []) ++ more)) k 0 ≡ f t
at_seam f [] t more zero same = refl
at_seam f [] t more (suc k) same = absurd (omega (arith, same))
at_seam f (x ∷ front) t more zero same = absurd (omega (arith, same))
at_seam f (x ∷ front) t more (suc k) same = at_seam f front t more k (omega (arith, same))

pub number_at : (rows : List TypeRow) (k : ℕ) (r : TypeRow) (numbers : List ℕ) (f : CType → ℕ) → k < length rows → r ≡ get_or rows k r → numbers ≡ map f (types_of_rows rows)
    → get_or numbers k 0 ≡ f (type_of_row (types_of_rows (take k rows)) r)
number_at rows k r numbers f within is are =
    let front = types_of_rows (take k rows) in
    let at = get_or rows k r in
    let whole : rows ≡ take k rows ++ at ∷ drop (suc k) rows = sym (take-append-drop k rows) ∙ ap (λ l. take k rows ++ l) (drop-cons rows k r within) in
    let rest = continues_behind (with_type front at) (drop (suc k) rows) in
    let size : length front ≡ k = omega (arith, length-types_behind [] (take k rows), length-take-le k rows (omega (arith, within))) in
    ap (λ l. get_or l k 0) (are ∙ ap (λ rs. map f (types_of_rows rs)) whole ∙ ap (map f) (types_split [] (take k rows) (at ∷ drop (suc k) rows) ∙ rest.1))
    ∙ at_seam f front (type_of_row front at) rest.0 k size
    ∙ ap (λ x. f (type_of_row front x)) (sym is)

pub numbers_length : (rows others : List TypeRow) (numbers : List ℕ) (f : CType → ℕ) → numbers ≡ map f (types_of_rows rows) → rows ≡ others → length numbers ≡ length others
numbers_length rows others numbers f are same =
    let size : length (types_of_rows rows) ≡ length rows = omega (arith, length-types_behind [] rows) in
    ap length are ∙ length-map (types_of_rows rows) f ∙ size ∙ ap length same
