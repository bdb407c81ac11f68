-- Rows that are equal stand for one type.
use Rattle.std.proofs.Common.{◌≡◌, true, List, [], ◌∷◌, refl, sym, ap, ◌∙◌, true≢false, arith, rules, slice_index_or}
use denote.Enum.Bare.{same_true}
use Rattle.lt_model.specs.contracts.scalar.Scalar.{the_type}
use Rattle.lt_tree.specs.declared.typed.types.TypeId.{TypeId}
use Rattle.lt_tree.specs.declared.typed.types.TypeRow.{TypeRow}
use Rattle.lt_tree.specs.declared.typed.types.TypeRow.TheVariants as row
use Rattle.lt_tree.specs.contracts.typed.types.TypeRowPartialEq.TheImpl as equal
use Rattle.lt_tree.specs.contracts.typed.types.TypeIdPartialEq.TheImpl as equal_id
use Rattle.std.specs.Cmp.Lexicographic.{pointwise}
use Rattle.lt_tree.specs.View.{qualifiers_of}
use Rattle.lt_tree.specs.Typing.Types.{CType, Void, Num, Pointer, Array, Struct, Function, Qualified, a_type}
use Rattle.lt_tree.specs.Typing.TypeRows.{type_in, all_in, type_of_row}

same_place : (types : List CType) (t u : TypeId) → t.place ≡ u.place → type_in types t ≡ type_in types u
same_place types t u e = ap (λ k. slice_index_or types k Void) e

same_ids : (types : List CType) (ts us : List TypeId) → pointwise (equal_id.eq-value).it ts us ≡ true → all_in types ts ≡ all_in types us
same_ids types [] [] same = refl
same_ids types (t ∷ ts) (u ∷ us) same =
    let e : t.place ≡ u.place = grind arith in let f : pointwise (equal_id.eq-value).it ts us ≡ true = grind arith in
    ap (λ a. a_type a (all_in types ts)) (same_place types t u e) ∙ ap (a_type (type_in types u)) (same_ids types ts us f)
same_ids types ts us same = absurd (true≢false (sym same))

pub equal_types : (a b : TypeRow) → (equal.eq-value).it a b ≡ true → (types : List CType) → type_of_row types a ≡ type_of_row types b
equal_types row.Void row.Void same types = refl
equal_types (row.Num s) (row.Num r) same types = ap Num (same_true the_type (search rules) s r same)
equal_types (row.Pointer t) (row.Pointer u) same types = let e : t.place ≡ u.place = grind arith in ap Pointer (same_place types t u e)
equal_types (row.Array t n) (row.Array u k) same types =
    let e : t.place ≡ u.place = grind arith in let f : n ≡ k = grind arith in ap (λ a. Array a n) (same_place types t u e) ∙ ap (Array (type_in types u)) f
equal_types (row.Struct j) (row.Struct k) same types = let e : j ≡ k = grind arith in ap Struct e
equal_types (row.Function f) (row.Function g) same types =
    let e : f.result.place ≡ g.result.place = grind arith in let d : f.dots ≡ g.dots = grind arith in
    let s : pointwise (equal_id.eq-value).it f.parameters.items g.parameters.items ≡ true = grind arith in
    ap (λ a. Function a (all_in types f.parameters.items) f.dots) (same_place types f.result g.result e)
    ∙ ap (λ ts. Function (type_in types g.result) ts f.dots) (same_ids types f.parameters.items g.parameters.items s)
    ∙ ap (Function (type_in types g.result) (all_in types g.parameters.items)) d
equal_types row.Floating row.Floating same types = refl
equal_types (row.Qualified p t) (row.Qualified q u) same types =
    let e : t.place ≡ u.place = grind arith in let c : p.constant ≡ q.constant = grind arith in let v : p.volatile ≡ q.volatile = grind arith in
    ap (Qualified (qualifiers_of p)) (same_place types t u e) ∙ ap (λ x. Qualified (record { constant = x; volatile = p.volatile }) (type_in types u)) c
    ∙ ap (λ x. Qualified (record { constant = q.constant; volatile = x }) (type_in types u)) v
equal_types a b same types = absurd (true≢false (sym same))
