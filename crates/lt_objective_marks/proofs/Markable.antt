-- Labels stand in front of values that are integers, neither calls nor conversions.
use Rattle.std.proofs.Common.{◌≡◌, refl, ap, ◌∙◌, ℕ, List, [], Bool, true, false, ◌&&◌, if◌then◌else◌}
use Rattle.std.proofs.lemmas.Bool.{false≢true}
use Rattle.lt_model.specs.declared.operator.Op.{Op}
use Rattle.lt_model.specs.declared.operator.Op.TheVariants as O
use Rattle.lt_tree.specs.declared.expression.LogicalOp.{LogicalOp}
use Rattle.lt_tree.specs.declared.expression.UnaryOp.TheVariants as unary
use Rattle.lt_tree.specs.Tree as c
use Rattle.lt_tree.specs.Erasure.{erased, erased_expressions}
use Rattle.lt_tree.specs.Comma.{comma_of}
use Rattle.lt_tree.specs.Typing.Types.{CType, is_integer}
use Rattle.lt_tree.specs.Typing.Entities.{Known}
use Rattle.lt_tree.specs.Typing.Steps.{goes_on}
use Rattle.lt_tree.specs.Typing.Expressions.{Typed, as_value, own_type, finish}
use Rattle.lt_tree.specs.Typing.BinaryOperations.{judge_binary}
use Rattle.lt_tree.specs.Typing.ExpressionTyping.{expression}
use Rattle.lt_tree.specs.Typing.Programs.{Program}
use Rattle.lt_objectives.specs.declared.criteria.Criterion.{Criterion}
use Rattle.lt_objectives.specs.declared.criteria.Criterion.TheVariants as C
use Rattle.lt_objectives.specs.Places.{type_at}
use Rattle.lt_objectives.specs.Mutants.{is_one_of, relations, pointer_relations, is_fitting, is_signed_integer, arithmetic_mutants, relational_mutants, connector_mutants}
use Rattle.lt_objectives.specs.Copies.{is_core}
use Rattle.lt_objectives.specs.Objectives.{left_type, right_type, mutants}
use Rattle.lt_erased_typing.specs.Simple.{IsSimpleWith}
use Rattle.lt_typed_nodes.specs.Coming.{ComesToIt}
use Rattle.lt_objective_marks.specs.Settings.{Setting}
use Rattle.lt_objective_marks.proofs.Given.{Given}
use Rattle.lt_objective_marks.proofs.Ends.{ended, through}
use Rattle.lt_objective_marks.proofs.Made.{is_made_plainly}
use Rattle.lt_objective_marks.proofs.Values.{of_integers, relation_found, connector_found}
use Rattle.lt_objective_marks.proofs.Noted.{signed_found, integer_operands}
use Rattle.lt_objective_marks.proofs.Mutated.{mutants_there}
use Rattle.lt_objective_marks.proofs.Whole.{ValuesAreMarkable}

-- ---- by criteria

pub both_there : (a b : Bool) (list : List c.Expression) → ((if a && b then list else []) ≡ [] → ⊥) → (a ≡ true) × (b ≡ true)
both_there true true list some = (refl, refl)
both_there true false list some = absurd (some refl)
both_there false b list some = absurd (some refl)

one_there : (a : Bool) (list : List c.Expression) → ((if a then list else []) ≡ [] → ⊥) → a ≡ true
one_there true list some = refl
one_there false list some = absurd (some refl)

plainly : (e : c.Expression) → is_fitting (erased e) ≡ true → is_core e ≡ true → is_made_plainly e ≡ true
plainly (c.Call callee arguments) fitting core = absurd cc
plainly (c.Cast types d operand) fitting core = absurd cc
plainly (c.Unary unary.Plus operand) fitting core = absurd cc
plainly (c.Unary unary.Minus operand) fitting core = refl
plainly (c.Unary unary.Complement operand) fitting core = refl
plainly (c.Unary unary.Not operand) fitting core = refl
plainly (c.Unary unary.AddressOf operand) fitting core = refl
plainly (c.Unary unary.Dereference operand) fitting core = refl
plainly e fitting core = refl

related : (op : Op) (b : Bool) → is_one_of op (if b then relations else pointer_relations) ≡ true → is_one_of op relations ≡ true
related op true is = is
related O.Eq false is = refl
related O.Ne false is = refl
related op false is = absurd cc

-- an operator, a connector, or neither, without marks too
data Head : c.Expression → Type 0 where
  binary : {op : Op} {left right : c.Expression} → Head (c.Binary op left right)
  connector : {op : LogicalOp} {left right : c.Expression} → Head (c.Logical op left right)
  neither : {e : c.Expression} → ((t u : CType) → arithmetic_mutants t u (erased e) ≡ []) → ((t u : CType) → relational_mutants t u (erased e) ≡ []) → connector_mutants (erased e) ≡ [] → Head e

none_of_comma : (first second : c.Expression) (rest : c.Expressions)
    → ((t u : CType) → arithmetic_mutants t u (comma_of first (c.an_expression second rest)) ≡ []) × ((t u : CType) → relational_mutants t u (comma_of first (c.an_expression second rest)) ≡ [])
    × (connector_mutants (comma_of first (c.an_expression second rest)) ≡ [])
none_of_comma (c.Comma parts) second rest = ((λ t u. refl), (λ t u. refl), refl)
none_of_comma first second rest = ((λ t u. refl), (λ t u. refl), refl)

head : (known : Known) (e : c.Expression) → is_core e ≡ true → IsSimpleWith true known.frames e → Head e
head known (c.Binary op left right) core simple = binary
head known (c.Logical op left right) core simple = connector
head known (c.Comma c.no_expressions) core simple = absurd simple
head known (c.Comma (c.an_expression first c.no_expressions)) core simple = absurd simple
head known (c.Comma (c.an_expression first (c.an_expression second rest))) core simple =
    let none = none_of_comma (erased first) (erased second) (erased_expressions rest) in neither none.0 none.1 none.2
head known (c.Marked ms e) core simple = absurd (false≢true core)
head known (c.Decide e when_true when_false tag) core simple = absurd (false≢true core)
head known (c.After e id tag) core simple = absurd (false≢true core)
head known e core simple = neither (λ t u. refl) (λ t u. refl) refl

module _ (g : Given) {new : ℕ → Bool} {unit : c.Unit} {program : Program} {criterion : Criterion} {id : ℕ} (s : Setting new unit program criterion id) where
  of_arithmetic : (known : Known) (e : c.Expression) (there : ComesToIt program.facts known as_value e) → Head e
      → (arithmetic_mutants (left_type unit program known.next e) (right_type unit program known.next e) (erased e) ≡ [] → ⊥) → (is_integer (own_type there.found) ≡ true) × (is_made_plainly e ≡ true)
  of_arithmetic known (c.Binary op left right) there binary some =
      let are = one_there _ _ some in
      let them = integer_operands g s as_value op known left right there are in
      let at = ended them.second.behind known.next as_value (judge_binary op them.first.found them.second.found them.second.behind) there.found there.behind
      (through (λ (y : Typed) (j : Known). finish known.next as_value (judge_binary op them.first.found y j) j) them.second.goes
      (through (λ (x : Typed) (k : Known). goes_on (expression right as_value k) (λ (y : Typed) (j : Known). finish known.next as_value (judge_binary op x y j) j)) them.first.goes there.goes)) in
      (ap (λ (x : Typed). is_integer (own_type x)) at.found ∙ of_integers as_value op them.first.found them.second.found them.second.behind them.left_integer them.right_integer, refl)
  of_arithmetic known (c.Logical op left right) there connector some = absurd (some refl)
  of_arithmetic known e there (neither a r l) some = absurd (some (a (left_type unit program known.next e) (right_type unit program known.next e)))

  of_relational : (known : Known) (e : c.Expression) (there : ComesToIt program.facts known as_value e) → Head e
      → (relational_mutants (left_type unit program known.next e) (right_type unit program known.next e) (erased e) ≡ [] → ⊥) → (is_integer (own_type there.found) ≡ true) × (is_made_plainly e ≡ true)
  of_relational known (c.Binary op left right) there binary some =
      (relation_found as_value op left right known there.behind there.found (related op _ (one_there _ _ some)) there.goes, refl)
  of_relational known (c.Logical op left right) there connector some = absurd (some refl)
  of_relational known e there (neither a r l) some = absurd (some (r (left_type unit program known.next e) (right_type unit program known.next e)))

  of_connector : (known : Known) (e : c.Expression) (there : ComesToIt program.facts known as_value e) → Head e → (connector_mutants (erased e) ≡ [] → ⊥) → (is_integer (own_type there.found) ≡ true) × (is_made_plainly e ≡ true)
  of_connector known (c.Binary op left right) there binary some = absurd (some refl)
  of_connector known (c.Logical op left right) there connector some = (connector_found as_value op left right known there.behind there.found there.goes, refl)
  of_connector known e there (neither a r l) some = absurd (some l)

  pub markable : ValuesAreMarkable g s
  markable known e there it isin may simple = by criterion (mutants_there unit program criterion known.next e it may)
    where
      by : (criterion : Criterion) → (mutants unit program criterion known.next e (erased e) ≡ [] → ⊥) → (is_integer (own_type there.found) ≡ true) × (is_made_plainly e ≡ true)
      by C.AbsoluteValue some =
          let both = both_there (is_fitting (erased e)) (is_signed_integer program.model (type_at unit program known.next)) _ some in
          (signed_found g s program.model known e there both.1, plainly e both.0 may.0)
      by C.ArithmeticOperator some = of_arithmetic known e there (head known e may.0 simple) some
      by C.RelationalOperator some = of_relational known e there (head known e may.0 simple) some
      by C.LogicalConnector some = of_connector known e there (head known e may.0 simple) some
      by C.Decision some = absurd (some refl)
      by C.Condition some = absurd (some refl)
      by C.MultipleCondition some = absurd (some refl)
      by C.GeneralActiveClause some = absurd (some refl)
      by C.Function some = absurd (some refl)
      by C.InputDomain some = absurd (some refl)
      by C.CorrelatedActiveClause some = absurd (some refl)
      by C.RestrictedActiveClause some = absurd (some refl)
      by C.AllUses some = absurd (some refl)
