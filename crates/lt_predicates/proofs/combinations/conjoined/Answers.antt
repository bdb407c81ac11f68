use Rattle.std.proofs.Common.{sym, ◌∙◌, Bor}
use Rattle.lt_tree.specs.declared.expression.Expr.{Expr}
use Rattle.lt_tree.specs.Tree as t
use Rattle.lt_tree.specs.View.{expression_of}
use Rattle.lt_predicates.specs.Expressions.{expressions}
use Rattle.lt_predicates.proofs.Conjoined.{join_step, join_end}
use Rattle.lt_predicates.proofs.combinations.conjoined.Goals as goal

value : Bor Expr → t.Expression
value e = expression_of e.now

pub loop-clause-preserved : goal.loop-clause-preserved
unfolding value
loop-clause-preserved c =
    join_step value expression_of c.in-Some.rest.now c.loop-clause.clause-index c.clause-item.result c.as_slice.result.now c.loop-clause.made.items (expressions c.in_ok-made-2.made)
    c.loop-clause-test.true c.clause-item.is c.as_slice.ensures.value c.in_ok-made-2.ensures
    ∙ c.loop-clause.invariant

pub returns : goal.returns
unfolding value
returns c = sym (join_end value (expressions c.loop-clause.made) c.in-Some.rest.now c.loop-clause.clause-index c.loop-clause-test.false) ∙ c.loop-clause.invariant
