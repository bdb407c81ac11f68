-- The new `pc_decide` around an expression.
use Rattle.std.proofs.Common.{◌≡◌, inl, refl, sym, ap, ◌∙◌, subst, ℕ, suc, ◌+◌, ◌<◌, ◌≤◌, List, [], ◌∷◌, ◌++◌, Bool, true, false, ◌&&◌, if◌then◌else◌, eqb, Some, arith}
use Rattle.std.proofs.lemmas.Bool.{eqb-true}
use Rattle.std.specs.Prelude.{pos, codes}
use Rattle.std.specs.Fmt.{decimal}
use Rattle.lt_model.specs.declared.scalar.DataModel.{DataModel}
use Rattle.lt_model.specs.declared.scalar.DataModel.TheVariants as model
use Rattle.lt_model.specs.declared.scalar.Scalar.TheVariants as S
use Rattle.lt_tree.specs.Tree as c
use Rattle.lt_tree.specs.Erasure.{erased}
use Rattle.lt_tree.specs.Typing.MarkRules.{number_of_id, is_tag}
use Rattle.lt_tree.specs.Typing.Constants.{constant_of}
use Rattle.lt_tree.specs.Typing.Entities.{Known, greatest_label_id}
use Rattle.lt_tree.specs.Typing.Programs.{Program}
use Rattle.lt_objectives.specs.declared.criteria.Criterion.{Criterion}
use Rattle.lt_objectives.specs.declared.criteria.Criterion.TheVariants as C
use Rattle.lt_objectives.specs.Criteria.{tag_of}
use Rattle.lt_objectives.specs.Decisions.{one, decisions, clauses}
use Rattle.lt_objectives.specs.Places.{core, is_open}
use Rattle.lt_objectives.specs.Copies.{is_core, can_be_copied}
use Rattle.lt_objectives.specs.Objectives.{in_front, around, Objective, objective, at_test, differences, at_expression, decided_at, objectives}
use Rattle.lt_objectives.specs.Marked.{numbered, next_id, labels, decided}
use Rattle.lt_objective_places.specs.Stands.{IsAmong, Role, in_test, can_be_decided}
use Rattle.lt_objective_places.specs.Pieces.{an_expression, IsIn}
use Rattle.lt_objective_places.specs.Laws.{AreTogether, DecidedAreOf}
use Rattle.lt_mark_typing.specs.Beside.{is_used}
use Rattle.lt_mark_typing.specs.Placed.{IsNewId}
use Rattle.lt_mark_typing.proofs.Predicates.{constant_there, integer_there}
use Rattle.lt_objective_typing.specs.Laws.{AddsIds}
use Rattle.lt_objective_typing.proofs.Ids.{tag_is}
use Rattle.lt_objective_marks.specs.Settings.{marks_of, Setting, IsIdAt}
use Rattle.lt_objective_marks.proofs.Given.{Given}
use Rattle.lt_objective_marks.proofs.Tags.{nothing_told}
use Rattle.lt_objective_marks.proofs.Shapes as shapes
use Rattle.lt_objective_marks.proofs.Shapes.{Shape, shape}
use Rattle.lt_objective_marks.proofs.Labels.{core_is, none_decided, among_all, id_among, least_id, last_id}

-- ---- two new ids

one_is : (m : DataModel) → constant_of m (codes "1") ≡ Some (record { type = S.Int; value = pos 1 })
one_is model.Ilp32 = refl
one_is model.Lp64 = refl
one_is model.Llp64 = refl
one_is model.Ilp32U = refl
one_is model.Lp64U = refl
one_is model.Llp64U = refl

-- the two ids of a `pc_decide`, as those of two labels
pub two_ids : Given → (new : ℕ → Bool) (criterion : Criterion) (known : Known) (used : List ℕ) (j : ℕ) → 1 ≤ j → j + 2 ≤ suc greatest_label_id
    → ((n : ℕ) → j ≤ n → n < j + 2 → (new n ≡ true) × (is_used n used ≡ false))
    → IsNewId new used (decimal j) × IsNewId new (number_of_id (decimal j) ∷ used) (decimal (suc j)) × (is_tag (tag_of criterion) ≡ true)
    × AddsIds used (number_of_id (decimal (suc j)) ∷ number_of_id (decimal j) ∷ used) j 2
two_ids g new criterion known used j first last fresh =
    let there = λ (used : List ℕ). integer_there {new = new} {used' = used} {known = known} one (constant_there (codes "1") (record { type = S.Int; value = pos 1 }) (one_is known.model)) in
    let it = g.labels new used known in_front C.Function 0 j (one ∷ one ∷ []) refl (λ used. (there used, (there used, tt))) (λ used. nothing_told new used known C.Function (λ is. is) (one ∷ one ∷ [])) first last fresh in
    let next : j + 1 ≡ suc j = omega arith in (
      it.1.0,
      subst (λ n. IsNewId new (number_of_id (decimal j) ∷ used) (decimal n)) next it.1.4.0,
      tag_is criterion,
      subst (λ n. AddsIds used (number_of_id (decimal n) ∷ number_of_id (decimal j) ∷ used) j 2) next (subst (λ after. AddsIds used after j 2) it.1.4.4 it.2),
    )

-- ---- what is decided

module _ (g : Given) {new : ℕ → Bool} {unit : c.Unit} {program : Program} {criterion : Criterion} {id : ℕ} (s : Setting new unit program criterion id) where
  -- No `pc_decide` is new around an expression; or one is, with two ids of that place, around a test that no label is in front of.
  pub data Around (k : ℕ) (role : Role) (e : c.Expression) : Type 0 where
    undecided : ((x : c.Expression) → decided (marks_of unit program criterion id) k x ≡ x) → Around k role e
    decided_there : role ≡ in_test → can_be_decided e ≡ true → labels in_front (marks_of unit program criterion id) k ≡ c.no_marks
        → (j : ℕ) → ((x : c.Expression) → decided (marks_of unit program criterion id) k x ≡ c.Decide x (decimal j) (decimal (suc j)) (tag_of criterion))
        → 1 ≤ j → j + 2 ≤ suc greatest_label_id → ((n : ℕ) → j ≤ n → n < j + 2 → (new n ≡ true) × IsIdAt (marks_of unit program criterion id) k n) → Around k role e

  module _ (role : Role) (e : c.Expression) (k : ℕ) (isin : IsIn unit k (an_expression role e)) where
    decided_of : DecidedAreOf unit program criterion k id (at_expression unit program criterion (core k e).number (core k e).expression)
    decided_of = ((g.one_node unit program criterion k id).0 role e (g.stand.2 unit k (an_expression role e) isin)).1

    -- in front of what has a `pc_decide` at its core there are no labels
    bare : (d : ℕ) → at_expression unit program criterion (core k e).number (core k e).expression ≡ objective d around criterion (erased (core k e).expression) ∷ []
        → labels in_front (marks_of unit program criterion id) k ≡ c.no_marks
    bare d are = by (is_core e) refl
      where
        first : (list : List Objective) → at_expression unit program criterion k e ≡ list → ((j : ℕ) → labels in_front (numbered j list) k ≡ c.no_marks) → labels in_front (marks_of unit program criterion id) k ≡ c.no_marks
        first list are none =
            let it = ((g.one_node unit program criterion k id).0 role e (g.stand.2 unit k (an_expression role e) isin)).0 in
            it.labels_are ∙ ap (λ l. labels in_front (numbered (next_id id it.together.before) l) k) are ∙ none (next_id id it.together.before)

        by : (b : Bool) → is_core e ≡ b → labels in_front (marks_of unit program criterion id) k ≡ c.no_marks
        by true whole = first (objective d around criterion (erased (core k e).expression) ∷ []) (ap (λ it. at_expression unit program criterion it.number it.expression) (sym (core_is k e whole)) ∙ are) (λ j. refl)
        by false other =
            first [] (ap (λ b. if b && is_open unit program k then at_test criterion (can_be_copied unit k e) (decided_at (decisions unit) k) (decided_at (clauses unit) k) k e ++ differences unit program criterion k e else []) other) (λ j. refl)

    pub own_decision : Around k role e
    own_decision = by (at_expression unit program criterion (core k e).number (core k e).expression) (shape unit program criterion (core k e).number (core k e).expression) refl
      where
        j : ℕ
        j = next_id id decided_of.together.before

        by_place : (d : ℕ) (b : Bool) → eqb d k ≡ b
            → at_expression unit program criterion (core k e).number (core k e).expression ≡ objective d around criterion (erased (core k e).expression) ∷ []
            → Around k role e
        by_place d false other are =
            undecided (λ x. decided_of.decided_are x ∙ ap (λ l. decided (numbered j l) k x) are
            ∙ ap (λ b. if b then c.Decide x (decimal j) (decimal (suc j)) (tag_of criterion) else x) other)
        by_place d true same are =
            let o = objective d around criterion (erased (core k e).expression) in
            let here : IsAmong o (at_expression unit program criterion (core k e).number (core k e).expression) = subst (IsAmong o) (sym are) (inl refl) in
            let all = among_all g s (at_expression unit program criterion (core k e).number (core k e).expression) decided_of.together o here in
            let place : d ≡ k = eqb-true d k same in
            let may = (g.may_stand unit program criterion k o all place).0 role e isin in
            let them = subst (AreTogether unit program criterion) are decided_of.together in
            let low = least_id g s (at_expression unit program criterion (core k e).number (core k e).expression) decided_of.together in
            let most = last_id g s (at_expression unit program criterion (core k e).number (core k e).expression) decided_of.together in
            let end : j + 2 ≤ next_id id (objectives unit program criterion) = subst (λ l. next_id j l ≤ next_id id (objectives unit program criterion)) are most in
            let first = s.first in
            let last = s.last in
            decided_there may.0 may.1 (bare d are) j
            (λ x. decided_of.decided_are x ∙ ap (λ l. decided (numbered j l) k x) are ∙ ap (λ b. if b then c.Decide x (decimal j) (decimal (suc j)) (tag_of criterion) else x) same)
            (omega (arith, low, first)) (omega (arith, end, last))
            (λ n from to. (
              s.fresh n (omega (arith, low, from)) (omega (arith, end, to)),
              id_among g s (at_expression unit program criterion (core k e).number (core k e).expression) decided_of.together k n
                  (subst (λ l. IsIdAt (numbered j l) k n) (sym are) (record { objective = o; id = j }, inl refl, place, from, to)),
            ))

        by : (list : List Objective) → Shape unit criterion (core k e).number (core k e).expression list → at_expression unit program criterion (core k e).number (core k e).expression ≡ list → Around k role e
        by list shapes.nothing are = undecided (λ x. decided_of.decided_are x ∙ ap (λ l. decided (numbered j l) k x) are)
        by list (shapes.labels p ps copied) are =
            undecided (λ x. decided_of.decided_are x ∙ ap (λ l. decided (numbered j l) k x) are ∙ none_decided (core k e).number k j criterion (p ∷ ps) x)
        by list (shapes.a_decision d) are = by_place d (eqb d k) refl are
