-- New marks are old for those whose ids come behind theirs.
use Rattle.std.proofs.Common.{◌≡◌, ◌≤◌, ◌<◌, ◌⊎◌, inl, inr, ℕ, suc, ◌+◌, List, [], ◌∷◌, Bool, true, false, refl, sym, ap, ◌∙◌, arith}
use Rattle.std.proofs.lemmas.Bool.{false≢true, eqb-true, eq-eqb, le-leb, leb-true}
use Rattle.std.specs.Prelude.{◌==◌, nat_le}
use Rattle.std.specs.List.{AllByRecursion}
use Rattle.std.specs.Fmt.{decimal}
use Rattle.lt_tree.specs.Purity.{is_pure}
use Rattle.lt_tree.specs.Typing.Types.{is_scalar}
use Rattle.lt_tree.specs.Typing.Entities.{greatest_label_id}
use Rattle.lt_tree.specs.Typing.MarkRules.{number_of_id}
use Rattle.lt_objectives.specs.declared.criteria.Criterion.TheVariants as C
use Rattle.lt_objectives.specs.Decisions.{one}
use Rattle.lt_objectives.specs.Objectives.{Form, at_start, in_front, around, Objective}
use Rattle.lt_objectives.specs.Marked.{NewMark, ids_of, numbered, next_id}
use Rattle.lt_mark_typing.specs.MarkedRuns.{is_from}
use Rattle.lt_objective_typing.specs.Laws.{LabelsOfObjectivesAreNew}
use Rattle.lt_objective_marks.specs.Marks.{IsOldAs, IsOldMark, IsPurelyLabelled}
use Rattle.lt_objective_marks.proofs.Pure.{no_marks_in}
use Rattle.lt_objective_marks.proofs.Tags.{nothing_told}
use Rattle.lt_objective_marks.proofs.PurePredicates.{nowhere, pure_there}

pub next_from : (id : ℕ) (them : List Objective) → id ≤ next_id id them
next_from id [] = omega arith
next_from id (it ∷ rest) = let more = next_from (id + ids_of it.form) rest in omega arith

not_true : (b : Bool) → (b ≡ true → ⊥) → b ≡ false
not_true true h = absurd (h refl)
not_true false h = refl

pub not_from : (last n : ℕ) → n < last → is_from last n ≡ false
not_from last n less = not_true (nat_le last n) (λ h. let le : last ≤ n = leb-true last n h in omega arith)

-- what is behind a later id is behind an earlier one
pub later_from : (id last n : ℕ) → id ≤ last → is_from id n ≡ false → is_from last n ≡ false
later_from id last n less is = not_true (nat_le last n) (λ h. let le : last ≤ n = leb-true last n h in false≢true (sym is ∙ le-leb id n (omega arith)))

module _ (labels_are_new : LabelsOfObjectivesAreNew) where
  -- an id is written as the number that it is
  number_is_id : (n : ℕ) → 1 ≤ n → n ≤ greatest_label_id → number_of_id (decimal n) ≡ n
  number_is_id n least most =
      let it = labels_are_new (λ k. k == n) [] (nowhere n) at_start C.Function 0 n (one ∷ []) refl (λ used. (pure_there (λ k. k == n) used n (eq-eqb n n refl) is_scalar one refl, tt))
      (λ used. nothing_told (λ k. k == n) used (nowhere n) C.Function (λ is. is) (one ∷ [])) least (omega arith)
      (λ k low high. let above : n ≤ k = low in let below : k < n + 1 = high in (eq-eqb k n (omega arith), refl)) in
      eqb-true (number_of_id (decimal n)) n it.1.0.1

  number_old : (last n : ℕ) → 1 ≤ n → n < last → last ≤ suc greatest_label_id → is_from last (number_of_id (decimal n)) ≡ false
  number_old last n least less most = ap (is_from last) (number_is_id n least (omega arith)) ∙ not_from last n less

  old_as : (last : ℕ) (form : Form) (it : NewMark) → 1 ≤ it.id → it.id + ids_of form ≤ last → last ≤ suc greatest_label_id → (form ≡ around) ⊎ (is_pure it.objective.predicate ≡ true)
      → IsOldAs (is_from last) form it
  old_as last around it least less most pure = let behind : it.id + 2 ≤ last = less in (number_old last it.id least (omega arith) most, number_old last (suc it.id) (omega arith) (omega arith) most)
  old_as last at_start it least less most (inl is) = absurd cc
  old_as last at_start it least less most (inr pure) = let behind : it.id + 1 ≤ last = less in (number_old last it.id least (omega arith) most, no_marks_in (is_from last) it.objective.predicate pure)
  old_as last in_front it least less most (inl is) = absurd cc
  old_as last in_front it least less most (inr pure) = let behind : it.id + 1 ≤ last = less in (number_old last it.id least (omega arith) most, no_marks_in (is_from last) it.objective.predicate pure)

  pub all_old : (last id : ℕ) (them : List Objective) → 1 ≤ id → next_id id them ≤ last → last ≤ suc greatest_label_id → AllByRecursion IsPurelyLabelled them
      → AllByRecursion (IsOldMark (is_from last)) (numbered id them)
  all_old last id [] least less most pure = tt
  all_old last id (it ∷ rest) least less most pure =
      let behind : next_id (id + ids_of it.form) rest ≤ last = less in
      let more : id + ids_of it.form ≤ next_id (id + ids_of it.form) rest = next_from (id + ids_of it.form) rest in
      (old_as last it.form (record { objective = it; id = id }) least (omega arith) most pure.0, all_old last (id + ids_of it.form) rest (omega arith) behind most pure.1)
