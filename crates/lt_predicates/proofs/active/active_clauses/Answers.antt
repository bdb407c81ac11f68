use Rattle.std.proofs.Common.{sym, ap, ◌∙◌, Bor}
use Rattle.lt_tree.specs.declared.expression.Expr.{Expr}
use Rattle.lt_tree.specs.Tree as t
use Rattle.lt_tree.specs.View.{expression_of}
use Rattle.lt_objectives.specs.Decisions.{conjunction, negation}
use Rattle.lt_predicates.specs.Expressions.{expressions}
use Rattle.lt_predicates.proofs.ActiveLaws.{active_step, active_end}
use Rattle.lt_predicates.proofs.active.active_clauses.Goals as goal

value : Bor Expr → t.Expression
value e = expression_of e.now

pub loop-number-preserved : goal.loop-number-preserved
unfolding value
loop-number-preserved c =
    let d = expression_of c.args.d.now in
    let clauses = c.deref-clause-items.result.now in
    let n = c.loop-number.number in
    let clause = c.clause-item.result in
    active_step value expression_of d clauses n clause c.loop-number.list.items c.push.new.self.items c.push-in-loop-number.new.self.items c.in_ok-conjunction.field-0 c.in_ok-logical.field-0
    c.loop-number-test.true c.clause-item.is c.in_ok-push.ensures.items c.in_ok-push-2.ensures.items
    (c.in_ok-conjunction.ensures ∙ ap (conjunction (value clause)) c.in_ok-determined.ensures)
    (c.in_ok-logical.ensures ∙ ap (λ e. conjunction e (expression_of c.in_ok-determined-2.determined)) c.in_ok-negation.ensures ∙ ap (conjunction (negation (value clause))) c.in_ok-determined-2.ensures)
    ∙ c.loop-number.invariant

pub returns : goal.returns
unfolding value
returns c =
    sym (active_end value (expression_of c.args.d.now) c.deref-clause-items.result.now c.loop-number.number (expressions c.loop-number.list) c.loop-number-test.false)
    ∙ c.loop-number.invariant
