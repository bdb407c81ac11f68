use Rattle.std.proofs.Common.{◌≡◌, ◌++◌, drop}
use Rattle.lt_tree.specs.View.{expression_of}
use Rattle.lt_objectives.specs.Decisions.{active_from, active_clauses}
use Rattle.lt_predicates.specs.Expressions.{expressions, pointed}
use Rattle.lt_predicates.proofs.active.active_clauses.Given as goal

abbrev pub invariant-loop-number : goal.invariant-loop-number
invariant-loop-number l = expressions l.list ++ active_from (expression_of l.d) l.number (pointed (drop l.number l.clause-items)) ≡ active_clauses (expression_of l.d)
