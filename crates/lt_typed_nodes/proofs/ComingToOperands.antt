-- Where typing comes to an expression it comes to its operands.
use Rattle.std.proofs.Common.{ℕ, false, List}
use Rattle.lt_model.specs.declared.operator.Op.TheVariants as O
use Rattle.lt_tree.specs.Tree as c
use Rattle.lt_tree.specs.Typing.TypedTree.{before, after as afterwards}
use Rattle.lt_tree.specs.Typing.Entities.{Known, Fact}
use Rattle.lt_tree.specs.Typing.Steps.{goes_on}
use Rattle.lt_tree.specs.Typing.Expressions.{Typed, Use, as_value, as_truth, as_place, as_callee, own_type, Judged, finish}
use Rattle.lt_tree.specs.Typing.Operations.{judge_step, judge_size, judge_member, judge_arrow, judge_index, judge_call, judge_cast}
use Rattle.lt_tree.specs.Typing.BinaryOperations.{judge_binary, judge_logical, judge_conditional, judge_assignment, judge_comma}
use Rattle.lt_tree.specs.Typing.MarkRules.{judge_decide, inside_mark, inside_after, judge_after, judge_marked}
use Rattle.lt_tree.specs.Typing.Specifying.{elsewhere}
use Rattle.lt_tree.specs.Typing.Declarators.{type_name_faults}
use Rattle.lt_tree.specs.Typing.NodeEnds.{judge_unary, operand_of, also}
use Rattle.lt_tree.specs.Typing.ExpressionTyping.{expression, expressions}
use Rattle.lt_typed_nodes.specs.Coming.{ComesTo, Behind, entered, ComesToIt, ComesToAll, ComesToOperands, ComesToEach, OperandsAreComeTo, unmarked_here}
use Rattle.lt_typed_nodes.proofs.FactSteps.{whole}
use Rattle.lt_typed_nodes.proofs.NotedExpressions.{of_expression, of_expressions, of_marks, of_specifiers, of_declarator}
use Rattle.lt_typed_nodes.proofs.ComingSteps.{of_part, of_it, none, next, finished, first, behind, inside, unmarked}

-- one operand
one : {facts : List Fact} {known : Known} (node : ℕ) (role inner : Use) (it : c.Expression) (judge : Typed → Known → Judged)
    → ComesTo facts known (goes_on (expression it inner known) (λ x k. finish node role (judge x k) k)) → ComesToIt facts known inner it
one {facts} {known} node role inner it judge comes = first (expression it inner known) comes (λ x k. finished node role (judge x k) k)

-- two operands
two : {facts : List Fact} {known : Known} (node : ℕ) (role near other : Use) (left right : c.Expression) (judge : Typed → Typed → Known → Judged)
    → ComesTo facts known (goes_on (expression left near known) (λ x k. goes_on (expression right other k) (λ y k. finish node role (judge x y k) k)))
    → ComesToIt facts known near left × Behind (expression left near known) (λ x k. ComesToIt facts k other right)
two {facts} {known} node role near other left right judge comes = (
  first (expression left near known) comes (λ x k. next (of_it k (of_expression right other k)) (λ y k. finished node role (judge x y k) k)),
  λ x k is. one node role other right (judge x) (behind _ comes (whole known (of_expression left near known)) x k is),
)

pub to_operands : (facts : List Fact) (known : Known) (role : Use) (it : c.Expression) → ComesToIt facts known role it → ComesToOperands facts known role it
to_operands facts known role (c.Name name) comes = tt
to_operands facts known role (c.Constant text) comes = tt
to_operands facts known role (c.Text bytes) comes = tt
to_operands facts known role (c.SizeofType s d) comes = tt
to_operands facts known role (c.Index base index) comes = two known.next role as_value as_value base index judge_index (inside comes)
to_operands facts known role (c.Call callee arguments) comes = (
  first (expression callee as_callee (entered known)) (inside comes) (λ f k. next (of_part (of_expressions arguments k)) (λ xs k. finished known.next role (judge_call f xs k) k)),
  λ f k is. first (expressions arguments k) (behind _ (inside comes) (whole (entered known) (of_expression callee as_callee (entered known))) f k is) (λ xs k. finished known.next role (judge_call f xs k) k),
)
to_operands facts known role (c.Member base name) comes = one known.next role as_place base (λ x k. judge_member x name k) (inside comes)
to_operands facts known role (c.Arrow pointer name) comes = one known.next role as_value pointer (λ x k. judge_arrow x name k) (inside comes)
to_operands facts known role (c.PostInc target) comes = one known.next role as_place target (judge_step before O.Add) (inside comes)
to_operands facts known role (c.PostDec target) comes = one known.next role as_place target (judge_step before O.Sub) (inside comes)
to_operands facts known role (c.PreInc target) comes = one known.next role as_place target (judge_step afterwards O.Add) (inside comes)
to_operands facts known role (c.PreDec target) comes = one known.next role as_place target (judge_step afterwards O.Sub) (inside comes)
to_operands facts known role (c.Unary op target) comes = one known.next role (operand_of op) target (judge_unary op) (inside comes)
to_operands facts known role (c.SizeofExpr target) comes =
    unmarked known.is_unmarked (entered known) (expression target as_place (unmarked_here (entered known))) (first _ (inside comes) (λ x k. finished known.next role (judge_size (own_type x) k) k))
to_operands facts known role (c.Cast s d target) comes =
    λ it k is t j there. one known.next role as_value target (λ x k. also t.faults (judge_cast t.type x k))
    (behind _ (behind _ (inside comes) (of_specifiers s elsewhere (entered known)) it k is) (of_declarator d it false (λ name known b. type_name_faults b) k) t j there)
to_operands facts known role (c.Binary op left right) comes = two known.next role as_value as_value left right (judge_binary op) (inside comes)
to_operands facts known role (c.Logical op left right) comes = two known.next role as_truth as_truth left right (λ x y k. judge_logical op x y) (inside comes)
to_operands facts known role (c.Conditional test left right) comes = (
  (
    first (expression test as_truth (entered known)) (inside comes)
        (λ p k. next (of_it k (of_expression left as_value k)) (λ x k. next (of_it k (of_expression right as_value k)) (λ y k. finished known.next role (judge_conditional p x y k) k))),
    λ p k is. (two known.next role as_value as_value left right (judge_conditional p) (behind _ (inside comes) (whole (entered known) (of_expression test as_truth (entered known))) p k is)).0,
  ),
  λ p k is. (two known.next role as_value as_value left right (judge_conditional p) (behind _ (inside comes) (whole (entered known) (of_expression test as_truth (entered known))) p k is)).1,
)
to_operands facts known role (c.Assign op target value) comes = two known.next role as_place as_value target value (judge_assignment op) (inside comes)
to_operands facts known role (c.Comma list) comes = first (expressions list (entered known)) (inside comes) (λ xs k. finished known.next role (judge_comma xs) k)
to_operands facts known role (c.Marked ms value) comes =
    λ typed k is. one known.next role (inside_mark role) value (λ x k. judge_marked typed x) (behind _ (inside comes) (of_marks ms (entered known)) typed k is)
to_operands facts known role (c.Decide target when_true when_false tag) comes =
    first (expression target (inside_mark role) (entered known)) (inside comes) (λ x k. next (finished known.next role (judge_decide role x when_true when_false tag k) k) (λ result k. none _))
to_operands facts known role (c.After target id tag) comes =
    first (expression target (inside_after role) (entered known)) (inside comes) (λ x k. next (finished known.next role (judge_after role x id tag k) k) (λ result k. none _))

pub to_each : (facts : List Fact) (known : Known) (them : c.Expressions) → ComesToAll facts known them → ComesToEach facts known them
to_each facts known c.no_expressions comes = tt
to_each facts known (c.an_expression it rest) comes = (
  first (expression it as_value known) comes (λ x k. next (of_part (of_expressions rest k)) (λ xs k. none k)),
  λ x k is. first (expressions rest k) (behind _ comes (whole known (of_expression it as_value known)) x k is) (λ xs k. none k),
)

pub operands_are_come_to : OperandsAreComeTo
operands_are_come_to = (to_operands, to_each)
