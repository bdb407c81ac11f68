-- Other operators in place of an expression's own.
use Rattle.std.proofs.Common.{◌≡◌, List, [], ◌∷◌, map, refl, sym, ap, ◌∙◌, true}
use Rattle.std.specs.Prelude.{not, filter, if◌then◌else◌}
use Rattle.lt_model.specs.declared.operator.Op.{Op}
use Rattle.lt_tree.specs.Tree as t
use Rattle.lt_tree.specs.Erasure.{erased}
use Rattle.lt_objectives.specs.Decisions.{inequality}
use Rattle.lt_objectives.specs.Mutants.{same_op, is_one_of}
use Rattle.lt_predicates.specs.Differences.{differences, other_operators, copied_others, with_operator}

map-map : {A B C : Type 0} (f : B → C) (g : A → B) (xs : List A) → map f (map g xs) ≡ map (λ x. f (g x)) xs
map-map f g [] = refl
map-map f g (x ∷ xs) = ap (λ l. f (g x) ∷ l) (map-map f g xs)

of_binary : (ops : List Op) (op : Op) (left right : t.Expression) → is_one_of op ops ≡ true
    → map (λ other. inequality (t.Binary op left right) (t.Binary other left right)) (filter (λ other. not (same_op op other)) ops) ≡ differences (t.Binary op left right) (other_operators ops (t.Binary op left right))
of_binary ops op left right one =
    let them = filter (λ other. not (same_op op other)) ops in
    sym (map-map (inequality (t.Binary op left right)) (λ other. t.Binary other left right) them)
    ∙ ap (λ b. map (inequality (t.Binary op left right)) (if b then map (λ other. t.Binary other left right) them else [])) (sym one)

-- the copies are of the expression without its marks
pub others_are : (ops : List Op) (op : Op) (e plain left right : t.Expression) → plain ≡ erased e → plain ≡ t.Binary op left right → is_one_of op ops ≡ true
    → copied_others ops op e ≡ differences plain (other_operators ops plain)
others_are ops op e plain left right same is one =
    ap (λ x. map (λ other. inequality x (with_operator other x)) (filter (λ other. not (same_op op other)) ops)) (sym same ∙ is)
    ∙ of_binary ops op left right one ∙ ap (λ x. differences x (other_operators ops x)) (sym is)
