-- The predicates of objectives at a pure expression are typed where it stands.
use Rattle.std.proofs.Common.{◌≡◌, ℕ, List, [], ◌∷◌, Option, Some, None, Bool, true, false, refl, sym, ap, subst}
use Rattle.std.specs.Prelude.{◌&&◌, if◌then◌else◌, map}
use Rattle.std.specs.List.{AllByRecursion}
use Rattle.lt_model.specs.declared.scalar.DataModel.{DataModel}
use Rattle.lt_model.specs.declared.operator.Op.{Op}
use Rattle.lt_tree.specs.declared.expression.LogicalOp.{LogicalOp}
use Rattle.lt_tree.specs.Tree as c
use Rattle.lt_tree.specs.Erasure.{erased}
use Rattle.lt_tree.specs.Purity.{is_pure}
use Rattle.lt_tree.specs.Typing.Types.{CType, is_scalar, is_integer}
use Rattle.lt_tree.specs.Typing.Entities.{Known}
use Rattle.lt_tree.specs.Typing.Expressions.{own_type}
use Rattle.lt_objectives.specs.declared.criteria.Criterion.{Criterion}
use Rattle.lt_objectives.specs.declared.criteria.Criterion.TheVariants as C
use Rattle.lt_objectives.specs.Decisions.{negation, clause_list, conjunctions, active_clauses, has_few_clauses}
use Rattle.lt_objectives.specs.Mutants.{is_fitting, is_signed_integer, absolute_mutants, arithmetic_mutants, connector_mutants, relational_mutants}
use Rattle.lt_objectives.specs.Objectives.{Form, in_front, around, Objective, objective, all_at, at_test}
use Rattle.lt_mark_laws.proofs.Lists.{all_both}
use Rattle.lt_mark_typing.specs.Placed.{IsAt, IsThere}
use Rattle.lt_mark_typing.specs.Laws.{PredicatesAreMade, PureExpressionsAreThere, NamedObjectsAreKnown}
use Rattle.lt_erased_typing.specs.Literals.{NamesObjects}
use Rattle.lt_objective_typing.proofs.Clauses.{Clauses, two, opposite, alone, clauses_in, clauses_same, clauses_of_two, of_decisions}
use Rattle.lt_objective_typing.specs.Laws.{ArePredicates, differences_from, TakesIntegers, ObjectivesHavePredicates}
use Rattle.lt_objective_typing.proofs.Both.{and_first, and_second}
use Rattle.lt_objective_typing.proofs.Made.{there}
use Rattle.lt_objective_typing.proofs.Mutants.{arithmetic_if, relational_if, connectors, absolutes}
use Rattle.lt_objective_typing.proofs.Parts.{IsTyped, typed_at, connected_parts, negated_part, integer_parts, equality_at}

-- what an expression is made of: two operands of an operator, or of a connector, or neither
data Operators : c.Expression → Type 0 where
  binary : {op : Op} {left right : c.Expression} → Operators (c.Binary op left right)
  connector : {op : LogicalOp} {left right : c.Expression} → Operators (c.Logical op left right)
  other : {e : c.Expression} → ((t u : CType) → arithmetic_mutants t u e ≡ []) → ((t u : CType) → relational_mutants t u e ≡ []) → connector_mutants e ≡ [] → Operators e

operators_in : (e : c.Expression) → Operators e
operators_in (c.Binary op left right) = binary
operators_in (c.Logical op left right) = connector
operators_in (c.Name w) = other (λ t u. refl) (λ t u. refl) refl
operators_in (c.Constant w) = other (λ t u. refl) (λ t u. refl) refl
operators_in (c.Text bytes) = other (λ t u. refl) (λ t u. refl) refl
operators_in (c.Index whole index) = other (λ t u. refl) (λ t u. refl) refl
operators_in (c.Call callee arguments) = other (λ t u. refl) (λ t u. refl) refl
operators_in (c.Member whole w) = other (λ t u. refl) (λ t u. refl) refl
operators_in (c.Arrow pointer w) = other (λ t u. refl) (λ t u. refl) refl
operators_in (c.PostInc e) = other (λ t u. refl) (λ t u. refl) refl
operators_in (c.PostDec e) = other (λ t u. refl) (λ t u. refl) refl
operators_in (c.PreInc e) = other (λ t u. refl) (λ t u. refl) refl
operators_in (c.PreDec e) = other (λ t u. refl) (λ t u. refl) refl
operators_in (c.Unary op e) = other (λ t u. refl) (λ t u. refl) refl
operators_in (c.SizeofExpr e) = other (λ t u. refl) (λ t u. refl) refl
operators_in (c.SizeofType s d) = other (λ t u. refl) (λ t u. refl) refl
operators_in (c.Cast s d e) = other (λ t u. refl) (λ t u. refl) refl
operators_in (c.Conditional test left right) = other (λ t u. refl) (λ t u. refl) refl
operators_in (c.Assign op target value) = other (λ t u. refl) (λ t u. refl) refl
operators_in (c.Comma list) = other (λ t u. refl) (λ t u. refl) refl
operators_in (c.Marked ms e) = other (λ t u. refl) (λ t u. refl) refl
operators_in (c.Decide e when_true when_false tag) = other (λ t u. refl) (λ t u. refl) refl
operators_in (c.After e id tag) = other (λ t u. refl) (λ t u. refl) refl

-- Where each object that has a name in scope is known, it is of this type here.
abbrev pub TypedNamed : Known → c.Expression → CType → Type 0
TypedNamed known e t = NamesObjects known → IsTyped known e t

module _ (made : PredicatesAreMade) (quiet : PureExpressionsAreThere) (named : NamedObjectsAreKnown) (new : ℕ → Bool) (used' : List ℕ) (k : Known) where
  -- ---- the clauses of a decision

  any_type : (test : CType → Bool) (e : c.Expression) → (NamesObjects k → IsAt test k e) → NamesObjects k → (t : CType) × IsTyped k e t
  any_type test e h w = let it = h w in (own_type it.0, (it.0, it.1, it.2, it.3, it.4, it.5, refl))

  clauses_there : {d : c.Expression} → Clauses d → is_pure d ≡ true → (NamesObjects k → IsAt is_scalar k d) → AllByRecursion (IsThere is_scalar new used' k) (clause_list d)
  clauses_there (two {op} {left} {right} v w) p h =
      let parts : NamesObjects k → IsAt is_scalar k left × IsAt is_scalar k right = λ n. let it = any_type is_scalar (c.Logical op left right) h n in connected_parts k n op left right it.0 p it.1 in
      subst (AllByRecursion (IsThere is_scalar new used' k)) (sym (clauses_of_two op v w))
      (all_both (IsThere is_scalar new used' k) (clause_list left) (clause_list right)
      (clauses_there v (and_first (is_pure left) (is_pure right) p) (λ n. (parts n).0)) (clauses_there w (and_second (is_pure left) (is_pure right) p) (λ n. (parts n).1)))
  clauses_there (opposite {e} v) p h =
      subst (AllByRecursion (IsThere is_scalar new used' k)) (sym (clauses_same v None None 1 0))
      (clauses_there v p (λ n. let it = any_type is_scalar (negation e) h n in negated_part k n e it.0 p it.1))
  clauses_there (alone {e} f g) p h = subst (AllByRecursion (IsThere is_scalar new used' k)) (sym (f None 0)) (there quiet named new used' k is_scalar e p h, tt)

  -- ---- mutants

  operator_mutants : (e : c.Expression) (s : CType) → is_pure e ≡ true → TypedNamed k e s → (t u : CType) → (is_integer t && is_integer u ≡ true → NamesObjects k → TakesIntegers k e)
      → ArePredicates new used' k (differences_from e (arithmetic_mutants t u e)) × ArePredicates new used' k (differences_from e (relational_mutants t u e))
  operator_mutants e s p h t u f = by e (operators_in e) p h f
    where
      by : (e : c.Expression) → Operators e → is_pure e ≡ true → TypedNamed k e s → (is_integer t && is_integer u ≡ true → NamesObjects k → TakesIntegers k e)
          → ArePredicates new used' k (differences_from e (arithmetic_mutants t u e)) × ArePredicates new used' k (differences_from e (relational_mutants t u e))
      by (c.Binary op left right) binary p h f =
          let integers : is_integer t && is_integer u ≡ true → IsThere is_integer new used' k left × IsThere is_integer new used' k right = λ b. (
            there quiet named new used' k is_integer left (and_first (is_pure left) (is_pure right) p) (λ n. (integer_parts k n op left right s p (h n) (f b n)).0),
            there quiet named new used' k is_integer right (and_second (is_pure left) (is_pure right) p) (λ n. (integer_parts k n op left right s p (h n) (f b n)).1),
          ) in (
            arithmetic_if made new used' k (is_integer t && is_integer u) op left right integers,
            relational_if made new used' k (is_integer t && is_integer u) op left right integers
                (λ q. there quiet named new used' k is_integer (c.Binary op left right) p (λ n. equality_at k n op left right s p (h n) q)),
          )
      by e (other a r l) p h f = (
        subst (λ list. ArePredicates new used' k (differences_from e list)) (sym (a t u)) tt,
        subst (λ list. ArePredicates new used' k (differences_from e list)) (sym (r t u)) tt,
      )
      by (c.Logical op left right) connector p h f = (tt, tt)

  connector_there : (e : c.Expression) (s : CType) → is_pure e ≡ true → TypedNamed k e s → ArePredicates new used' k (differences_from e (connector_mutants e))
  connector_there e s p h = by e (operators_in e) p h
    where
      by : (e : c.Expression) → Operators e → is_pure e ≡ true → TypedNamed k e s → ArePredicates new used' k (differences_from e (connector_mutants e))
      by (c.Logical op left right) connector p h =
          connectors made new used' k op left right
          (there quiet named new used' k is_scalar left (and_first (is_pure left) (is_pure right) p) (λ n. (connected_parts k n op left right s p (h n)).0))
          (there quiet named new used' k is_scalar right (and_second (is_pure left) (is_pure right) p) (λ n. (connected_parts k n op left right s p (h n)).1))
      by e (other a r l) p h = subst (λ list. ArePredicates new used' k (differences_from e list)) (sym l) tt
      by (c.Binary op left right) binary p h = tt

-- ---- decisions and clauses

-- both truths of a decision, the conjunctions of its clauses, and what says that a clause determines it
abbrev HavePredicates : (ℕ → Bool) → List ℕ → Known → c.Expression → Type 0
HavePredicates new used known d = ArePredicates new used known (d ∷ negation d ∷ []) × ArePredicates new used known (conjunctions (clause_list d)) × ArePredicates new used known (active_clauses d)

predicates_are : (place : ℕ) (form : Form) (criterion : Criterion) (list : List c.Expression) → map (λ (it : Objective). it.predicate) (all_at place form criterion list) ≡ list
predicates_are place form criterion [] = refl
predicates_are place form criterion (e ∷ es) = ap (λ l. e ∷ l) (predicates_are place form criterion es)

module _ (new : ℕ → Bool) (used' : List ℕ) (k : Known) where
  them_at : (place : ℕ) (form : Form) (criterion : Criterion) (list : List c.Expression) → ArePredicates new used' k list → ArePredicates new used' k (map (λ it. it.predicate) (all_at place form criterion list))
  them_at place form criterion list h = subst (ArePredicates new used' k) (sym (predicates_are place form criterion list)) h

  truths_by : (b : Bool) (criterion : Criterion) (place decided : ℕ) (e : c.Expression) → ArePredicates new used' k (e ∷ negation e ∷ [])
      → ArePredicates new used' k (map (λ it. it.predicate) (if b then all_at place in_front criterion (e ∷ negation e ∷ []) else objective decided around criterion e ∷ []))
  truths_by true criterion place decided e h = them_at place in_front criterion (e ∷ negation e ∷ []) h
  truths_by false criterion place decided e h = (h.0, tt)

  combinations_by : (b : Bool) (criterion : Criterion) (place : ℕ) (list : List c.Expression) → ArePredicates new used' k list → ArePredicates new used' k (map (λ it. it.predicate) (if b then all_at place in_front criterion list else []))
  combinations_by true criterion place list h = them_at place in_front criterion list h
  combinations_by false criterion place list h = tt

  at_tests : (criterion : Criterion) (copied : Bool) (decision clause : Option ℕ) (place : ℕ) (e : c.Expression) → ArePredicates new used' k (erased e ∷ negation (erased e) ∷ []) → ArePredicates new used' k (conjunctions (clause_list (erased e)))
      → ArePredicates new used' k (active_clauses (erased e))
      → ArePredicates new used' k (map (λ it. it.predicate) (at_test criterion copied decision clause place e))
  at_tests C.Decision copied (Some decided) clause place e h g f = truths_by copied C.Decision place decided (erased e) h
  at_tests C.Condition copied decision (Some decided) place e h g f = truths_by copied C.Condition place decided (erased e) h
  at_tests C.MultipleCondition copied (Some decided) clause place e h g f = combinations_by (copied && has_few_clauses (erased e)) C.MultipleCondition place (conjunctions (clause_list (erased e))) g
  at_tests C.GeneralActiveClause copied (Some decided) clause place e h g f = combinations_by (copied && has_few_clauses (erased e)) C.GeneralActiveClause place (active_clauses (erased e)) f
  at_tests C.Decision copied None clause place e h g f = tt
  at_tests C.Condition copied decision None place e h g f = tt
  at_tests C.MultipleCondition copied None clause place e h g f = tt
  at_tests C.GeneralActiveClause copied None clause place e h g f = tt
  at_tests C.Function copied decision clause place e h g f = tt
  at_tests C.InputDomain copied decision clause place e h g f = tt
  at_tests C.CorrelatedActiveClause copied decision clause place e h g f = tt
  at_tests C.RestrictedActiveClause copied decision clause place e h g f = tt
  at_tests C.AllUses copied decision clause place e h g f = tt
  at_tests C.AbsoluteValue copied decision clause place e h g f = tt
  at_tests C.ArithmeticOperator copied decision clause place e h g f = tt
  at_tests C.LogicalConnector copied decision clause place e h g f = tt
  at_tests C.RelationalOperator copied decision clause place e h g f = tt

-- what the objectives at an expression have, where the marks around it are taken off
abbrev pub HaveAll : (ℕ → Bool) → List ℕ → Known → c.Expression → CType → (CType → CType → Type 0) → Type 0
HaveAll new used known e s Takes =
    (is_scalar s ≡ true → (criterion : Criterion) (copied : Bool) (decision clause : Option ℕ) (k : ℕ) (marked : c.Expression) → erased marked ≡ e
    → ArePredicates new used known (map (λ it. it.predicate) (at_test criterion copied decision clause k marked)))
    × ((model : DataModel) (t : CType) → (is_signed_integer model t ≡ true → is_integer s ≡ true) → ArePredicates new used known (differences_from e (absolute_mutants model t e)))
    × ArePredicates new used known (differences_from e (connector_mutants e))
    × ((t u : CType) → Takes t u
    → ArePredicates new used known (differences_from e (arithmetic_mutants t u e)) × ArePredicates new used known (differences_from e (relational_mutants t u e)))

-- A pure expression that is typed so, where the objects are known that have names in scope, has them.
pub of_typed : PredicatesAreMade → PureExpressionsAreThere → NamedObjectsAreKnown → (new : ℕ → Bool) (used : List ℕ) (known : Known) (e : c.Expression) (s : CType) → is_pure e ≡ true
    → TypedNamed known e s → HaveAll new used known e s (λ t u. is_integer t && is_integer u ≡ true → NamesObjects known → TakesIntegers known e)
of_typed made quiet named new used known e s p h = (
  λ q criterion copied decision clause place marked is.
      let clauses = clauses_there made quiet named new used known (clauses_in e p) p (λ n. typed_at known e is_scalar q (h n)) in
      let them = subst (HavePredicates new used known) (sym is) (of_decisions made new used known e p clauses) in
      at_tests new used known criterion copied decision clause place marked them.0 them.1 them.2,
  λ model t f. absolutes made new used known (is_fitting e && is_signed_integer model t) e
      (λ b. there quiet named new used known is_integer e p (λ n. typed_at known e is_integer (f (and_second (is_fitting e) (is_signed_integer model t) b)) (h n))),
  connector_there made quiet named new used known e s p h,
  λ t u f. operator_mutants made quiet named new used known e s p h t u f,
)

pub of_objectives : PredicatesAreMade → PureExpressionsAreThere → NamedObjectsAreKnown → ObjectivesHavePredicates
of_objectives made quiet named new used known e x next facts more p all q =
    let them = of_typed made quiet named new used known e (own_type x) p (λ n. (x, next, facts, more, all, q, refl)) in
    (them.0, them.1, them.2, λ t u f. them.3 t u (λ b n. f b))
