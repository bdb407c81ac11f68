-- Which objectives stand at an expression: labels in front of it, or one `pc_decide` around it.
use Rattle.std.proofs.Common.{◌≡◌, refl, sym, ap, ◌∙◌, subst, ℕ, List, [], ◌∷◌, ◌++◌, Bool, true, false, ◌&&◌, if◌then◌else◌, Option, Some, None}
use Rattle.std.specs.Prelude.{map}
use Rattle.lt_tree.specs.Tree as c
use Rattle.lt_tree.specs.Erasure.{erased}
use Rattle.lt_tree.specs.Typing.Programs.{Program}
use Rattle.lt_objectives.specs.declared.criteria.Criterion.{Criterion}
use Rattle.lt_objectives.specs.declared.criteria.Criterion.TheVariants as C
use Rattle.lt_objectives.specs.Places.{is_open, is_value_position}
use Rattle.lt_objectives.specs.Decisions.{decisions, clauses, negation, inequality, clause_list, conjunctions, active_clauses, has_few_clauses}
use Rattle.lt_objectives.specs.Copies.{is_core, can_be_copied}
use Rattle.lt_objectives.specs.Objectives.{in_front, around, Objective, objective, all_at, decided_at, at_test, mutants, differences, at_expression}

-- nothing stands there, or labels with these predicates in front of an expression that predicates may copy, or a `pc_decide` around what is decided
pub data Shape (unit : c.Unit) (criterion : Criterion) (k : ℕ) (e : c.Expression) : List Objective → Type 0 where
  nothing : Shape unit criterion k e []
  labels : (p : c.Expression) (ps : List c.Expression) → can_be_copied unit k e ≡ true → Shape unit criterion k e (all_at k in_front criterion (p ∷ ps))
  a_decision : (decided : ℕ) → Shape unit criterion k e (objective decided around criterion (erased e) ∷ [])

all_or_nothing : (unit : c.Unit) (criterion : Criterion) (k : ℕ) (e : c.Expression) (ps : List c.Expression) → can_be_copied unit k e ≡ true → Shape unit criterion k e (all_at k in_front criterion ps)
all_or_nothing unit criterion k e [] copied = nothing
all_or_nothing unit criterion k e (p ∷ ps) copied = labels p ps copied

-- ---- at expressions that predicates may copy

-- all are labels
some_of : (b : Bool) (criterion : Criterion) (k : ℕ) (list : List c.Expression)
    → (ps : List c.Expression) × ((if b then all_at k in_front criterion list else []) ≡ all_at k in_front criterion ps)
some_of true criterion k list = (list, refl)
some_of false criterion k list = ([], refl)

tests_of_copied : (criterion : Criterion) (decision clause : Option ℕ) (k : ℕ) (e : c.Expression)
    → (ps : List c.Expression) × (at_test criterion true decision clause k e ≡ all_at k in_front criterion ps)
tests_of_copied C.Decision (Some decided) clause k e = (erased e ∷ negation (erased e) ∷ [], refl)
tests_of_copied C.Condition decision (Some decided) k e = (erased e ∷ negation (erased e) ∷ [], refl)
tests_of_copied C.MultipleCondition (Some decided) clause k e = some_of (has_few_clauses (erased e)) C.MultipleCondition k (conjunctions (clause_list (erased e)))
tests_of_copied C.GeneralActiveClause (Some decided) clause k e = some_of (has_few_clauses (erased e)) C.GeneralActiveClause k (active_clauses (erased e))
tests_of_copied C.Decision None clause k e = ([], refl)
tests_of_copied C.Condition decision None k e = ([], refl)
tests_of_copied C.MultipleCondition None clause k e = ([], refl)
tests_of_copied C.GeneralActiveClause None clause k e = ([], refl)
tests_of_copied C.Function decision clause k e = ([], refl)
tests_of_copied C.InputDomain decision clause k e = ([], refl)
tests_of_copied C.CorrelatedActiveClause decision clause k e = ([], refl)
tests_of_copied C.RestrictedActiveClause decision clause k e = ([], refl)
tests_of_copied C.AllUses decision clause k e = ([], refl)
tests_of_copied C.AbsoluteValue decision clause k e = ([], refl)
tests_of_copied C.ArithmeticOperator decision clause k e = ([], refl)
tests_of_copied C.LogicalConnector decision clause k e = ([], refl)
tests_of_copied C.RelationalOperator decision clause k e = ([], refl)

-- ---- at others

tests_of_other : (unit : c.Unit) (criterion : Criterion) (decision clause : Option ℕ) (k : ℕ) (e : c.Expression) → Shape unit criterion k e (at_test criterion false decision clause k e ++ [])
tests_of_other unit C.Decision (Some decided) clause k e = a_decision decided
tests_of_other unit C.Condition decision (Some decided) k e = a_decision decided
tests_of_other unit C.MultipleCondition (Some decided) clause k e = nothing
tests_of_other unit C.GeneralActiveClause (Some decided) clause k e = nothing
tests_of_other unit C.Decision None clause k e = nothing
tests_of_other unit C.Condition decision None k e = nothing
tests_of_other unit C.MultipleCondition None clause k e = nothing
tests_of_other unit C.GeneralActiveClause None clause k e = nothing
tests_of_other unit C.Function decision clause k e = nothing
tests_of_other unit C.InputDomain decision clause k e = nothing
tests_of_other unit C.CorrelatedActiveClause decision clause k e = nothing
tests_of_other unit C.RestrictedActiveClause decision clause k e = nothing
tests_of_other unit C.AllUses decision clause k e = nothing
tests_of_other unit C.AbsoluteValue decision clause k e = nothing
tests_of_other unit C.ArithmeticOperator decision clause k e = nothing
tests_of_other unit C.LogicalConnector decision clause k e = nothing
tests_of_other unit C.RelationalOperator decision clause k e = nothing

-- ---- at any expression

both_all : (criterion : Criterion) (k : ℕ) (ps qs : List c.Expression) → all_at k in_front criterion ps ++ all_at k in_front criterion qs ≡ all_at k in_front criterion (ps ++ qs)
both_all criterion k [] qs = refl
both_all criterion k (p ∷ ps) qs = ap (λ (rest : List Objective). objective k in_front criterion p ∷ rest) (both_all criterion k ps qs)

module _ (unit : c.Unit) (program : Program) (criterion : Criterion) where
  by_copying : (b : Bool) (decision clause : Option ℕ) (k : ℕ) (e : c.Expression) → can_be_copied unit k e ≡ b
      → Shape unit criterion k e (at_test criterion b decision clause k e
      ++ (if b && is_value_position unit k then all_at k in_front criterion (map (inequality (erased e)) (mutants unit program criterion k e (erased e))) else []))
  by_copying true decision clause k e copied =
      let first = tests_of_copied criterion decision clause k e in
      let second = some_of (is_value_position unit k) criterion k (map (inequality (erased e)) (mutants unit program criterion k e (erased e))) in
      subst (Shape unit criterion k e) (sym (ap (λ list. list ++ (if is_value_position unit k then all_at k in_front criterion (map (inequality (erased e)) (mutants unit program criterion k e (erased e))) else [])) first.1
      ∙ ap (λ list. all_at k in_front criterion first.0 ++ list) second.1 ∙ both_all criterion k first.0 second.0))
      (all_or_nothing unit criterion k e (first.0 ++ second.0) copied)
  by_copying false decision clause k e other = tests_of_other unit criterion decision clause k e

  at_open : (b : Bool) (k : ℕ) (e : c.Expression)
      → Shape unit criterion k e (if b then at_test criterion (can_be_copied unit k e) (decided_at (decisions unit) k) (decided_at (clauses unit) k) k e ++ differences unit program criterion k e else [])
  at_open true k e = by_copying (can_be_copied unit k e) (decided_at (decisions unit) k) (decided_at (clauses unit) k) k e refl
  at_open false k e = nothing

  pub shape : (k : ℕ) (e : c.Expression) → Shape unit criterion k e (at_expression unit program criterion k e)
  shape k e = at_open (is_core e && is_open unit program k) k e
