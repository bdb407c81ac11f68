use Rattle.std.proofs.Common.{◌≡◌, ◌++◌, [], map, sym, ap, ◌∙◌, arith, Bor}
use Rattle.std.proofs.lemmas.List.{append-nil, nil_from_length}
use Rattle.lt_tree.specs.declared.expression.Expr.{Expr}
use Rattle.lt_tree.specs.Tree as t
use Rattle.lt_tree.specs.View.{expression_of}
use Rattle.lt_predicates.proofs.ClauseLaws.{list_is}
use Rattle.lt_predicates.proofs.Stack.{of_stack, both_step, one_step, clause_step, both_smaller, one_smaller, taken_smaller}
use Rattle.lt_predicates.proofs.clauses.clause_list.Goals as goal

value : Bor Expr → t.Expression
value e = expression_of e.now

pub left-smaller-in-Continue-branch-3 : goal.left-smaller-in-Continue-branch-3
unfolding value
left-smaller-in-Continue-branch-3 c =
    both_smaller value c.left.left.items c.pop.new.self.items c.push-in-Both.new.self.items c.push-in-Both-2.new.self.items c.in-Some.e c.in-Both.first c.in-Both.second
    c.in-Some.ensures.items c.in_ok-push-in-Both.ensures.items c.in_ok-push-in-Both-2.ensures.items c.in-Both.ensures

pub left-preserved-in-Continue-branch-3 : goal.left-preserved-in-Continue-branch-3
unfolding value
left-preserved-in-Continue-branch-3 c =
    ap (λ l. map value c.left.clauses.items ++ l)
    (both_step value c.left.left.items c.pop.new.self.items c.push-in-Both.new.self.items c.push-in-Both-2.new.self.items c.in-Some.e c.in-Both.first c.in-Both.second
    c.in-Some.ensures.items c.in_ok-push-in-Both.ensures.items c.in_ok-push-in-Both-2.ensures.items c.in-Both.ensures)
    ∙ c.left.invariant

pub left-smaller-in-Continue-branch-4 : goal.left-smaller-in-Continue-branch-4
unfolding value
left-smaller-in-Continue-branch-4 c =
    one_smaller value c.left.left.items c.pop.new.self.items c.push-in-One.new.self.items c.in-Some.e c.in-One.inner
    c.in-Some.ensures.items c.in_ok-push-in-One.ensures.items c.in-One.ensures

pub left-preserved-in-Continue-branch-4 : goal.left-preserved-in-Continue-branch-4
unfolding value
left-preserved-in-Continue-branch-4 c =
    ap (λ l. map value c.left.clauses.items ++ l)
    (one_step value c.left.left.items c.pop.new.self.items c.push-in-One.new.self.items c.in-Some.e c.in-One.inner
    c.in-Some.ensures.items c.in_ok-push-in-One.ensures.items c.in-One.ensures)
    ∙ c.left.invariant

pub left-smaller : goal.left-smaller
unfolding value
left-smaller c = taken_smaller value c.left.left.items c.pop.new.self.items c.in-Some.e c.in-Some.ensures.items

pub left-preserved : goal.left-preserved
unfolding value
left-preserved c =
    clause_step value c.left.left.items c.pop.new.self.items c.left.clauses.items c.push-in-Nothing.new.self.items c.in-Some.e
    c.in-Some.ensures.items c.in_ok-push-in-Nothing.ensures.items c.in-Nothing.ensures
    ∙ c.left.invariant

pub returns : goal.returns
unfolding value
returns c =
    let none : c.left.left.items ≡ [] = nil_from_length c.left.left.items (omega (arith, c.in_default.ensures.cases)) in
    sym (append-nil (map value c.left.clauses.items))
    ∙ sym (ap (λ l. map value c.left.clauses.items ++ of_stack (map value l)) none)
    ∙ c.left.invariant
    ∙ sym (list_is (expression_of c.args.d.now))
