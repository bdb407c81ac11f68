-- The greatest of the ids of two lists.
use Rattle.std.proofs.Common.{◌≡◌, sym, ap, ◌∙◌, ℕ, suc, ◌+◌, ◌<◌, max, List, [], ◌∷◌, ◌++◌, length, drop, get_or, drop-cons, arith}
use Rattle.lt_tree.specs.Constants.{value_of}
use Rattle.lt_tree.specs.Ids.{greatest_id, within}

assoc : (a b c : ℕ) → max a (max b c) ≡ max (max a b) c
assoc a b c = omega arith

pub greatest_both : (xs ys : List (List ℕ)) → greatest_id (xs ++ ys) ≡ max (greatest_id xs) (greatest_id ys)
greatest_both [] ys = omega arith
greatest_both (x ∷ xs) ys = ap (max (within (value_of x))) (greatest_both xs ys) ∙ assoc (within (value_of x)) (greatest_id xs) (greatest_id ys)

-- The greatest so far, and that of what is still to come, after one more of a list's elements.
pub preserved : {X : Type 0} (ids : List X → List (List ℕ)) (list : List X) (i : ℕ) (x : X) (best here new whole : ℕ) →
    i < length list → x ≡ get_or list i x → new ≡ max best here → ((rest : List X) → greatest_id (ids (x ∷ rest)) ≡ max here (greatest_id (ids rest))) →
    max best (greatest_id (ids (drop i list))) ≡ whole → max new (greatest_id (ids (drop (i + 1) list))) ≡ whole
preserved ids list i x best here new whole within is made step before =
    let rest = drop (i + 1) list in
    let more : suc i ≡ i + 1 = omega arith in
    let split : drop i list ≡ x ∷ rest = drop-cons list i x within ∙ ap (λ y. y ∷ drop (suc i) list) (sym is) ∙ ap (λ k. x ∷ drop k list) more in
    ap (λ m. max m (greatest_id (ids rest))) made ∙ sym (assoc best here (greatest_id (ids rest))) ∙ sym (ap (max best) (step rest))
    ∙ sym (ap (λ xs. max best (greatest_id (ids xs))) split) ∙ before

-- the ids of one that is followed by others
pub joined : (here : ℕ) (ids rest : List (List ℕ)) → here ≡ greatest_id ids → greatest_id (ids ++ rest) ≡ max here (greatest_id rest)
joined here ids rest is = greatest_both ids rest ∙ sym (ap (λ h. max h (greatest_id rest)) is)
