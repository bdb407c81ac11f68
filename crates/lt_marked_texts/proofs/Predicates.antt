-- What holds of an expression and of its clauses and operands, and is kept by the operators of predicates, holds of each predicate made of it.
use Rattle.std.proofs.Common.{ℕ, suc, ◌+◌, ◌-◌, Bool, true, false, List, [], ◌∷◌, ◌++◌, length, map, Option, None}
use Rattle.std.specs.Prelude.{if◌then◌else◌, not, ◌&&◌, filter, nat_lt}
use Rattle.lt_model.specs.declared.scalar.DataModel.{DataModel}
use Rattle.lt_model.specs.declared.operator.Op.{Op}
use Rattle.lt_model.specs.declared.operator.Op.TheVariants as O
use Rattle.lt_tree.specs.declared.expression.UnaryOp.{UnaryOp}
use Rattle.lt_tree.specs.declared.expression.UnaryOp.TheVariants as unary
use Rattle.lt_tree.specs.declared.expression.LogicalOp.{LogicalOp}
use Rattle.lt_tree.specs.declared.expression.LogicalOp.TheVariants as logical
use Rattle.lt_tree.specs.Tree as c
use Rattle.lt_tree.specs.Nodes.{in_expression, in_marks}
use Rattle.lt_tree.specs.Typing.Types.{CType, is_integer}
use Rattle.lt_tree.specs.Typing.Programs.{Program}
use Rattle.lt_objectives.specs.declared.criteria.Criterion.{Criterion}
use Rattle.lt_objectives.specs.declared.criteria.Criterion.TheVariants as C
use Rattle.lt_objectives.specs.Places.{type_at}
use Rattle.lt_objectives.specs.Decisions.{Test, in_after, clauses_of, one, zero_constant, negation, conjunction, inequality, clause_list, clause_count, conjunctions_from, conjunctions, with_clause, determination, active_from, active_clauses}
use Rattle.lt_objectives.specs.Mutants.{with_others, arithmetic, same_op, is_one_of, is_fitting, is_signed_integer, minus, absolute, absolute_mutants, arithmetic_mutants, other_connector, connector_mutants, relations, pointer_relations, relational_mutants}
use Rattle.lt_objectives.specs.Objectives.{left_type, right_type, mutants}

abbrev pub Each : (c.Expression → Type 0) → List c.Expression → Type 0
Each P [] = Unit {0}
Each P (e ∷ es) = P e × Each P es

-- what the operators of predicates keep, and clauses and operands have
pub record Kept (P : c.Expression → Type 0) : Type 0 where
  pub unit : P one
  pub nil : P zero_constant
  pub of_one : (op : UnaryOp) (e : c.Expression) → P e → P (c.Unary op e)
  pub of_two : (op : Op) (left right : c.Expression) → P left → P right → P (c.Binary op left right)
  pub of_truths : (op : LogicalOp) (left right : c.Expression) → P left → P right → P (c.Logical op left right)
  pub of_three : (test left right : c.Expression) → P test → P left → P right → P (c.Conditional test left right)
  pub operand : (op : UnaryOp) (e : c.Expression) → P (c.Unary op e) → P e
  pub operands : (op : Op) (left right : c.Expression) → P (c.Binary op left right) → P left × P right
  pub truths : (op : LogicalOp) (left right : c.Expression) → P (c.Logical op left right) → P left × P right
  pub behind_marks : (marks : c.Marks) (e : c.Expression) → P (c.Marked marks e) → P e
  pub decided : (e : c.Expression) (yes_id no_id tag : List ℕ) → P (c.Decide e yes_id no_id tag) → P e
  pub evaluated : (e : c.Expression) (id tag : List ℕ) → P (c.After e id tag) → P e

module _ {P : c.Expression → Type 0} (kept : Kept P) where
  each_joined : (xs ys : List c.Expression) → Each P xs → Each P ys → Each P (xs ++ ys)
  each_joined [] ys a b = b
  each_joined (x ∷ xs) ys a b = (a.0, each_joined xs ys a.1 b)

  each_if : (b : Bool) (xs : List c.Expression) → Each P xs → Each P (if b then xs else [])
  each_if true xs a = a
  each_if false xs a = tt

  -- ---- clauses

  abbrev EachTest : List Test → Type 0
  EachTest [] = Unit {0}
  EachTest (it ∷ rest) = P it.core.expression × EachTest rest

  tests_joined : (xs ys : List Test) → EachTest xs → EachTest ys → EachTest (xs ++ ys)
  tests_joined [] ys a b = b
  tests_joined (x ∷ xs) ys a b = (a.0, tests_joined xs ys a.1 b)

  tests_have : (d : c.Expression) (after : Option ℕ) (k : ℕ) → P d → EachTest (clauses_of after k d)
  tests_have (c.Logical op left right) after k p =
      let parts = kept.truths op left right p in
      tests_joined (clauses_of None (k + 1) left) (clauses_of None (k + 1 + length (in_expression left)) right) (tests_have left None (k + 1) parts.0) (tests_have right None (k + 1 + length (in_expression left)) parts.1)
  tests_have (c.Unary unary.Not e) after k p = tests_have e None (k + 1) (kept.operand unary.Not e p)
  tests_have (c.Marked marks e) after k p = tests_have e after (k + 1 + length (in_marks marks)) (kept.behind_marks marks e p)
  tests_have (c.Decide e yes_id no_id tag) after k p = tests_have e after (k + 1) (kept.decided e yes_id no_id tag p)
  tests_have (c.After e id tag) after k p = tests_have e (in_after after k) (k + 1) (kept.evaluated e id tag p)
  tests_have e after k p = (p, tt)

  each_core : (tests : List Test) → EachTest tests → Each P (map (λ it. it.core.expression) tests)
  each_core [] all = tt
  each_core (it ∷ rest) all = (all.0, each_core rest all.1)

  each_clause : (d : c.Expression) → P d → Each P (clause_list d)
  each_clause d p = each_core (clauses_of None 0 d) (tests_have d None 0 p)

  -- ---- combinations

  denied : (e : c.Expression) → P e → P (negation e)
  denied e p = kept.of_one unary.Not e p

  each_conjunction_from : (es : List c.Expression) (made : c.Expression) → P made → Each P es → Each P (conjunctions_from made es)
  each_conjunction_from [] made p all = (p, tt)
  each_conjunction_from (e ∷ es) made p all =
      each_joined (conjunctions_from (conjunction made e) es) (conjunctions_from (conjunction made (negation e)) es)
      (each_conjunction_from es (conjunction made e) (kept.of_truths logical.And made e p all.0) all.1)
      (each_conjunction_from es (conjunction made (negation e)) (kept.of_truths logical.And made (negation e) p (denied e all.0)) all.1)

  each_of_list : (es : List c.Expression) → Each P es → Each P (conjunctions es)
  each_of_list [] all = tt
  each_of_list (e ∷ es) all =
      each_joined (conjunctions_from e es) (conjunctions_from (negation e) es) (each_conjunction_from es e all.0 all.1) (each_conjunction_from es (negation e) (denied e all.0) all.1)

  pub each_conjunction : (d : c.Expression) → P d → Each P (conjunctions (clause_list d))
  each_conjunction d p = each_of_list (clause_list d) (each_clause d p)

  replaced_if : (b : Bool) (op : LogicalOp) (x left right y : c.Expression) → P x → P left → P right → P y → P (if b then c.Logical op x right else c.Logical op left y)
  replaced_if true op x left right y a b d e = kept.of_truths op x right a d
  replaced_if false op x left right y a b d e = kept.of_truths op left y b e

  replaced : (d : c.Expression) (n : ℕ) (by : c.Expression) → P by → P d → P (with_clause n by d)
  replaced (c.Logical op left right) n by b p =
      let parts = kept.truths op left right p in
      replaced_if (nat_lt n (clause_count left)) op (with_clause n by left) left right (with_clause (n - clause_count left) by right) (replaced left n by b parts.0) parts.0 parts.1
      (replaced right (n - clause_count left) by b parts.1)
  replaced (c.Unary unary.Not e) n by b p = denied (with_clause n by e) (replaced e n by b (kept.operand unary.Not e p))
  replaced e n by b p = b

  determines : (d : c.Expression) (n : ℕ) → P d → P (determination n d)
  determines d n p = kept.of_two O.Ne (with_clause n one d) (with_clause n zero_constant d) (replaced d n one kept.unit p) (replaced d n zero_constant kept.nil p)

  each_active_from : (d : c.Expression) (n : ℕ) (es : List c.Expression) → P d → Each P es → Each P (active_from d n es)
  each_active_from d n [] p all = tt
  each_active_from d n (e ∷ es) p all = (
    kept.of_truths logical.And e (determination n d) all.0 (determines d n p),
    (kept.of_truths logical.And (negation e) (determination n d) (denied e all.0) (determines d n p), each_active_from d (suc n) es p all.1),
  )

  pub each_active : (d : c.Expression) → P d → Each P (active_clauses d)
  each_active d p = each_active_from d 0 (clause_list d) p (each_clause d p)

  -- ---- mutants

  has_absolute : (e : c.Expression) → P e → P (absolute e)
  has_absolute e p = kept.of_three (c.Binary O.Lt e zero_constant) (minus e) e (kept.of_two O.Lt e zero_constant p kept.nil) (kept.of_one unary.Minus e p) p

  each_absolute : (m : DataModel) (t : CType) (e : c.Expression) → P e → Each P (absolute_mutants m t e)
  each_absolute m t e p = each_if (is_fitting e && is_signed_integer m t) (absolute e ∷ minus (absolute e) ∷ []) (has_absolute e p, (kept.of_one unary.Minus (absolute e) (has_absolute e p), tt))

  each_op : (ops : List Op) (left right : c.Expression) → P left → P right → Each P (map (λ other. c.Binary other left right) ops)
  each_op [] left right a b = tt
  each_op (op ∷ ops) left right a b = (kept.of_two op left right a b, each_op ops left right a b)

  each_other : (ops : List Op) (op : Op) (left right : c.Expression) → P left → P right → Each P (with_others ops op left right)
  each_other ops op left right a b =
      each_if (is_one_of op ops) (map (λ other. c.Binary other left right) (filter (λ other. not (same_op op other)) ops)) (each_op (filter (λ other. not (same_op op other)) ops) left right a b)

  each_arithmetic : (t u : CType) (e : c.Expression) → P e → Each P (arithmetic_mutants t u e)
  each_arithmetic t u (c.Binary op left right) p =
      let parts = kept.operands op left right p in each_if (is_integer t && is_integer u) (with_others arithmetic op left right) (each_other arithmetic op left right parts.0 parts.1)
  each_arithmetic t u e p = tt

  each_connector : (e : c.Expression) → P e → Each P (connector_mutants e)
  each_connector (c.Logical op left right) p = let parts = kept.truths op left right p in (kept.of_truths (other_connector op) left right parts.0 parts.1, tt)
  each_connector e p = tt

  each_relational : (t u : CType) (e : c.Expression) → P e → Each P (relational_mutants t u e)
  each_relational t u (c.Binary op left right) p =
      let parts = kept.operands op left right p in each_other (if is_integer t && is_integer u then relations else pointer_relations) op left right parts.0 parts.1
  each_relational t u e p = tt

  each_mutant : (unit : c.Unit) (program : Program) (criterion : Criterion) (k : ℕ) (e plain : c.Expression) → P plain → Each P (mutants unit program criterion k e plain)
  each_mutant unit program C.AbsoluteValue k e plain p = each_absolute program.model (type_at unit program k) plain p
  each_mutant unit program C.ArithmeticOperator k e plain p = each_arithmetic (left_type unit program k e) (right_type unit program k e) plain p
  each_mutant unit program C.LogicalConnector k e plain p = each_connector plain p
  each_mutant unit program C.RelationalOperator k e plain p = each_relational (left_type unit program k e) (right_type unit program k e) plain p
  each_mutant unit program _ k e plain p = tt

  each_inequality : (e : c.Expression) (es : List c.Expression) → P e → Each P es → Each P (map (inequality e) es)
  each_inequality e [] p all = tt
  each_inequality e (x ∷ xs) p all = (kept.of_two O.Ne e x p all.0, each_inequality e xs p all.1)

  pub each_difference : (unit : c.Unit) (program : Program) (criterion : Criterion) (k : ℕ) (e plain : c.Expression) → P plain → Each P (map (inequality plain) (mutants unit program criterion k e plain))
  each_difference unit program criterion k e plain p = each_inequality plain (mutants unit program criterion k e plain) p (each_mutant unit program criterion k e plain p)

  -- ---- truths

  pub both_truths_have : (e : c.Expression) → P e → Each P (e ∷ negation e ∷ [])
  both_truths_have e p = (p, (denied e p, tt))
