use Rattle.std.proofs.Common.{◌≡◌, ◌++◌}
use Rattle.lt_tree.specs.View.{expression_of}
use Rattle.lt_predicates.specs.Expressions.{pointed}
use Rattle.lt_predicates.proofs.ClauseLaws.{plain_clauses}
use Rattle.lt_predicates.proofs.Stack.{of_stack, stack_size}
use Rattle.lt_predicates.proofs.clauses.clause_list.Given as goal

abbrev pub invariant-left : goal.invariant-left
invariant-left l = pointed l.clauses.items ++ of_stack (pointed l.left.items) ≡ plain_clauses (expression_of l.d)

abbrev pub decreases-left : goal.decreases-left
decreases-left l = stack_size (pointed l.left.items)
