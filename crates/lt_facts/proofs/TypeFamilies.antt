-- Families of the types that rows stand for.
use Rattle.std.proofs.Common.{◌≡◌, ℕ, zero, suc, Bool, true, false, cond, List, [], ◌∷◌, ◌++◌, map, slice_index_or, refl, sym, ap, ◌∙◌}
use Rattle.std.proofs.lemmas.List.{map_push}
use Rattle.lt_model.specs.declared.scalar.DataModel.{DataModel}
use Rattle.lt_model.specs.Scalar.{is_signed}
use Rattle.lt_tree.specs.declared.typed.types.TypeRow.{TypeRow}
use Rattle.lt_tree.specs.declared.typed.types.TypeRow.TheVariants as row
use Rattle.lt_tree.specs.Typing.Types.{CType, Void, Num, Pointer, Array, Struct, Function, Floating, Qualified}
use Rattle.lt_tree.specs.Typing.TypeRows.{type_of_row, types_behind}
use Rattle.lt_facts.specs.declared.types.Family.TheVariants as F
use Rattle.lt_facts.specs.Families.{family, family_of_row, families_behind, IsFamilyOf}

pub at_map : {A B : Type 0} (f : A → B) (list : List A) (k : ℕ) (d : A) → slice_index_or (map f list) k (f d) ≡ f (slice_index_or list k d)
at_map f [] k d = refl
at_map f (x ∷ list) zero d = refl
at_map f (x ∷ list) (suc k) d = at_map f list k d

row_family : (m : DataModel) (types : List CType) (r : TypeRow) → family_of_row m (map (family m) types) r ≡ family m (type_of_row types r)
row_family m types row.Void = refl
row_family m types (row.Num s) = refl
row_family m types (row.Pointer t) = refl
row_family m types (row.Array t n) = refl
row_family m types (row.Struct k) = refl
row_family m types (row.Function f) = refl
row_family m types row.Floating = refl
row_family m types (row.Qualified q t) = at_map (family m) types t.place Void

pub families_of_rows : (m : DataModel) (types : List CType) (rows : List TypeRow) → families_behind m (map (family m) types) rows ≡ map (family m) (types_behind types rows)
families_of_rows m types [] = refl
families_of_rows m types (r ∷ rows) =
    ap (λ families. families_behind m families rows)
    (ap (λ f. map (family m) types ++ f ∷ []) (row_family m types r) ∙ sym (map_push (family m) types (type_of_row types r)))
    ∙ families_of_rows m (types ++ type_of_row types r ∷ []) rows

-- ---- what they say

number_kinds : (m : DataModel) (s : _) (b : Bool) → is_signed m s ≡ b → IsFamilyOf m (Num s) (cond b F.Signed F.Unsigned)
number_kinds m s true is = record { integer = refl; pointer = refl; signed = is }
number_kinds m s false is = record { integer = refl; pointer = refl; signed = is }

pub kinds : (m : DataModel) (t : CType) → IsFamilyOf m t (family m t)
kinds m (Num s) = number_kinds m s (is_signed m s) refl
kinds m (Pointer t) = record { integer = refl; pointer = refl; signed = refl }
kinds m (Qualified q t) = let inner = kinds m t in record { integer = inner.integer; pointer = inner.pointer; signed = inner.signed }
kinds m Void = record { integer = refl; pointer = refl; signed = refl }
kinds m (Array t n) = record { integer = refl; pointer = refl; signed = refl }
kinds m (Struct k) = record { integer = refl; pointer = refl; signed = refl }
kinds m (Function t ts dots) = record { integer = refl; pointer = refl; signed = refl }
kinds m Floating = record { integer = refl; pointer = refl; signed = refl }
