-- The objectives at an expression have predicates where it stands.
use Rattle.std.proofs.Common.{◌≡◌, ◌⊎◌, inl, inr, refl, sym, ap, ◌∙◌, subst, ℕ, List, [], ◌∷◌, ◌++◌, Bool, true, false, ◌&&◌, if◌then◌else◌, None}
use Rattle.std.proofs.lemmas.List.{map-append}
use Rattle.std.specs.Prelude.{map}
use Rattle.lt_tree.specs.Tree as c
use Rattle.lt_tree.specs.Erasure.{erased}
use Rattle.lt_tree.specs.Purity.{is_pure}
use Rattle.lt_tree.specs.Typing.Types.{is_integer, is_scalar}
use Rattle.lt_tree.specs.Typing.Entities.{Known}
use Rattle.lt_tree.specs.Typing.Expressions.{as_value, own_type}
use Rattle.lt_tree.specs.Typing.Programs.{Program}
use Rattle.lt_objectives.specs.declared.criteria.Criterion.{Criterion}
use Rattle.lt_objectives.specs.declared.criteria.Criterion.TheVariants as C
use Rattle.lt_objectives.specs.Places.{type_at, is_open, is_value_position}
use Rattle.lt_objectives.specs.Decisions.{decisions, clauses, inequality}
use Rattle.lt_objectives.specs.Mutants.{absolute_mutants, connector_mutants, arithmetic_mutants, relational_mutants}
use Rattle.lt_objectives.specs.Copies.{is_core, can_be_copied}
use Rattle.lt_objectives.specs.Objectives.{in_front, Objective, all_at, decided_at, at_test, left_type, right_type, mutants, differences, at_expression}
use Rattle.lt_mark_laws.proofs.Lists.{all_both}
use Rattle.lt_mark_typing.specs.Placed.{IsThere}
use Rattle.lt_objective_places.specs.Stands.{IsNoTest}
use Rattle.lt_objective_typing.specs.Laws.{ArePredicates, differences_from, TakesIntegers}
use Rattle.lt_erased_typing.specs.Literals.{NamesObjects}
use Rattle.lt_erased_typing.specs.Erasable.{CanBeErasedWith}
use Rattle.lt_typed_nodes.specs.Coming.{ComesToIt}
use Rattle.lt_objective_marks.specs.Settings.{Setting}
use Rattle.lt_objective_marks.proofs.Given.{Given}
use Rattle.lt_objective_marks.proofs.Noted.{signed_found, takes_integers}

no_tests : (criterion : Criterion) (copied : Bool) (k : ℕ) (e : c.Expression) → at_test criterion copied None None k e ≡ []
no_tests C.Decision copied k e = refl
no_tests C.Condition copied k e = refl
no_tests C.MultipleCondition copied k e = refl
no_tests C.GeneralActiveClause copied k e = refl
no_tests C.Function copied k e = refl
no_tests C.InputDomain copied k e = refl
no_tests C.CorrelatedActiveClause copied k e = refl
no_tests C.RestrictedActiveClause copied k e = refl
no_tests C.AllUses copied k e = refl
no_tests C.AbsoluteValue copied k e = refl
no_tests C.ArithmeticOperator copied k e = refl
no_tests C.LogicalConnector copied k e = refl
no_tests C.RelationalOperator copied k e = refl

pub none_at : (unit : c.Unit) (criterion : Criterion) (copied : Bool) (k : ℕ) (e : c.Expression) → IsNoTest unit k → at_test criterion copied (decided_at (decisions unit) k) (decided_at (clauses unit) k) k e ≡ []
none_at unit criterion copied k e none =
    ap (λ it. at_test criterion copied it (decided_at (clauses unit) k) k e) none.0 ∙ ap (λ it. at_test criterion copied None it k e) none.1 ∙ no_tests criterion copied k e

pub predicates_of : (k : ℕ) (criterion : Criterion) (list : List c.Expression) → map (λ (it : Objective). it.predicate) (all_at k in_front criterion list) ≡ list
predicates_of k criterion [] = refl
predicates_of k criterion (e ∷ es) = ap (λ l. e ∷ l) (predicates_of k criterion es)

module _ (g : Given) {new : ℕ → Bool} {unit : c.Unit} {program : Program} {criterion : Criterion} {id : ℕ} (s : Setting new unit program criterion id) (known : Known) where
  abbrev Are : List c.Expression → Type 0
  Are list = (used : List ℕ) → ArePredicates new used known list

  -- the operands of an operator
  takes : (e : c.Expression) → (there : ComesToIt program.facts known as_value e)
      → is_integer (left_type unit program known.next e) && is_integer (right_type unit program known.next e) ≡ true → TakesIntegers known e
  takes (c.Binary op left right) there are = takes_integers g s op known left right there are
  takes _ there are = tt

  module _ (e : c.Expression) (core : is_core e ≡ true) (pure : is_pure (erased e) ≡ true) (there : ComesToIt program.facts known as_value e)
      (erasable : NamesObjects known → CanBeErasedWith true as_value known e) where
    by_criterion : (criterion : Criterion) (used : List ℕ) → ArePredicates new used known (differences_from (erased e) (mutants unit program criterion known.next e (erased e)))
    by_criterion criterion used =
        let them = g.predicates new used known there.behind e there.found core pure erasable there.goes in
        by criterion (
          them.1 program.model (type_at unit program known.next) (λ signed. signed_found g s program.model known e there signed),
          them.2,
          (them.3 (left_type unit program known.next e) (right_type unit program known.next e) (takes e there)).0,
          (them.3 (left_type unit program known.next e) (right_type unit program known.next e) (takes e there)).1,
        )
      where
        by : (criterion : Criterion)
            → ArePredicates new used known (differences_from (erased e) (absolute_mutants program.model (type_at unit program known.next) (erased e)))
            × ArePredicates new used known (differences_from (erased e) (connector_mutants (erased e)))
            × ArePredicates new used known (differences_from (erased e) (arithmetic_mutants (left_type unit program known.next e) (right_type unit program known.next e) (erased e)))
            × ArePredicates new used known (differences_from (erased e) (relational_mutants (left_type unit program known.next e) (right_type unit program known.next e) (erased e)))
            → ArePredicates new used known (differences_from (erased e) (mutants unit program criterion known.next e (erased e)))
        by C.AbsoluteValue h = h.0
        by C.LogicalConnector h = h.1
        by C.ArithmeticOperator h = h.2
        by C.RelationalOperator h = h.3
        by C.Decision h = tt
        by C.Condition h = tt
        by C.MultipleCondition h = tt
        by C.GeneralActiveClause h = tt
        by C.Function h = tt
        by C.InputDomain h = tt
        by C.CorrelatedActiveClause h = tt
        by C.RestrictedActiveClause h = tt
        by C.AllUses h = tt

    of_differences : (b : Bool) (used : List ℕ)
        → ArePredicates new used known (map (λ it. it.predicate) (if b then all_at known.next in_front criterion (map (inequality (erased e)) (mutants unit program criterion known.next e (erased e))) else []))
    of_differences true used = subst (ArePredicates new used known) (sym (predicates_of known.next criterion (differences_from (erased e) (mutants unit program criterion known.next e (erased e))))) (by_criterion criterion used)
    of_differences false used = tt

    -- tests are scalars; what isn't one has no objectives as a test
    of_tests : (is_scalar (own_type there.found) ≡ true) ⊎ IsNoTest unit known.next → (used : List ℕ)
        → ArePredicates new used known (map (λ it. it.predicate) (at_test criterion (can_be_copied unit known.next e) (decided_at (decisions unit) known.next) (decided_at (clauses unit) known.next) known.next e))
    of_tests (inl scalar) used =
        (g.predicates new used known there.behind e there.found core pure erasable there.goes).0 scalar criterion (can_be_copied unit known.next e) (decided_at (decisions unit) known.next) (decided_at (clauses unit) known.next) known.next
    of_tests (inr none) used = subst (λ list. ArePredicates new used known (map (λ (it : Objective). it.predicate) list)) (sym (none_at unit criterion (can_be_copied unit known.next e) known.next e none)) tt

    at_open : (b : Bool) → (is_scalar (own_type there.found) ≡ true) ⊎ IsNoTest unit known.next → (used : List ℕ)
        → ArePredicates new used known (map (λ it. it.predicate) (if b then at_test criterion (can_be_copied unit known.next e) (decided_at (decisions unit) known.next) (decided_at (clauses unit) known.next) known.next e
        ++ differences unit program criterion known.next e else []))
    at_open true tested used =
        let first = at_test criterion (can_be_copied unit known.next e) (decided_at (decisions unit) known.next) (decided_at (clauses unit) known.next) known.next e in
        let second = differences unit program criterion known.next e in
        subst (ArePredicates new used known) (sym (map-append (λ (it : Objective). it.predicate) first second))
        (all_both (IsThere is_scalar new used known) (map (λ it. it.predicate) first) (map (λ it. it.predicate) second) (of_tests tested used)
        (of_differences (can_be_copied unit known.next e && is_value_position unit known.next) used))
    at_open false tested used = tt

    -- all objectives there have predicates
    pub are_predicates : (is_scalar (own_type there.found) ≡ true) ⊎ IsNoTest unit known.next → (ps : List c.Expression) → at_expression unit program criterion known.next e ≡ all_at known.next in_front criterion ps
        → (used : List ℕ) → ArePredicates new used known ps
    are_predicates tested ps are used =
        subst (ArePredicates new used known) (ap (map (λ it. it.predicate)) are ∙ predicates_of known.next criterion ps) (at_open (is_core e && is_open unit program known.next) tested used)
