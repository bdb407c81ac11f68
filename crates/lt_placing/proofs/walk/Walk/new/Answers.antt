use Rattle.std.proofs.Common.{◌≡◌, refl, ap, ◌∙◌, sym, subst, rules, arith}
use Rattle.std.proofs.lemmas.List.Sorted.{IsNonDecreasingBy-from_sort_by_key, answers_always, length_permutation}
use Rattle.lt_placing.specs.NewMarks.{new_marks}
use Rattle.lt_placing.specs.Walks.{of_place, AscendFrom}
use Rattle.lt_placing.proofs.Reached.{first}
use Rattle.lt_placing.proofs.Sorted.{place_of, kept, ascend}
use Rattle.lt_placing.proofs.walk.Walk.new.Goals as goal

pub returns : goal.returns
returns c =
    let same = c.from_vec.ensures.items in
    let stable = c.in_ok-sort_by_key.ensures.stable place_of (answers_always _ (λ a r. r ≡ place_of a.0.now) _ (λ f a r q k. search rules)) in
    let up = IsNonDecreasingBy-from_sort_by_key place_of _ c.in_ok-sort_by_key.ensures.sorted (λ a r q k. search rules) in
    first _ c.args.marks.items
    (λ j. ap (λ xs. of_place j (new_marks xs)) same ∙ kept j _ _ (length_permutation _ _ c.in_ok-sort_by_key.ensures.permutation) stable)
    (subst (λ xs. AscendFrom 0 (new_marks xs)) (sym same) (ascend 0 _ (λ d some. omega arith) up)) refl
