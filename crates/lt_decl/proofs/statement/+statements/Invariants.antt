use Rattle.std.proofs.Common.{◌≡◌, ◌+◌, ◌*◌, ◌≤◌, length}
use Rattle.lt_tree.specs.View.{expression_of}
use Rattle.lt_tree.specs.UnitView.{items_in, cases_in}
use Rattle.lt_tree.specs.Scope.{after_expression}
use Rattle.lt_expr.specs.Fronts.{after}
use Rattle.lt_expr.specs.Parsing.{rest_of, scope_of}
use Rattle.lt_decl.specs.Reading as reading
use Rattle.lt_decl.proofs.Fronts.{items_before, cases_before}
use Rattle.lt_expr.proofs.Scopes.{Within}
use Rattle.lt_decl.proofs.statement.+statements.Given as goal

abbrev pub decreases-statement : goal.decreases-statement
decreases-statement l = 2 * l.depth

abbrev pub decreases-under : goal.decreases-under
decreases-under l = 2 * l.depth + 1

abbrev pub decreases-choice : goal.decreases-choice
decreases-choice l = 2 * l.depth

abbrev pub decreases-while_loop : goal.decreases-while_loop
decreases-while_loop l = 2 * l.depth

abbrev pub decreases-do_loop : goal.decreases-do_loop
decreases-do_loop l = 2 * l.depth

abbrev pub decreases-for_loop : goal.decreases-for_loop
decreases-for_loop l = 2 * l.depth

abbrev pub decreases-switch : goal.decreases-switch
decreases-switch l = 2 * l.depth

abbrev pub decreases-cases : goal.decreases-cases
decreases-cases l = 2 * l.depth

abbrev pub decreases-case : goal.decreases-case
decreases-case l = 2 * l.depth + 1

abbrev pub decreases-items : goal.decreases-items
decreases-items l = 2 * l.depth

abbrev pub decreases-item : goal.decreases-item
decreases-item l = 2 * l.depth

abbrev pub decreases-cases-more : goal.decreases-cases-more
decreases-cases-more l = l.depth

abbrev pub invariant-cases-more : goal.invariant-cases-more
invariant-cases-more l = record {
  read : after (cases_before (cases_in l.cases.items)) (reading.cases l.depth (scope_of l.parser) (rest_of l.parser)) ≡ reading.cases l.fn.depth (after_expression (expression_of l.operand) (scope_of l.fn.parser)) (rest_of l.fn.parser);
  less : l.depth ≤ l.fn.depth;
  around : l.around ≡ length l.fn.parser.inner;
  within : Within l.fn.parser l.parser;
}

abbrev pub decreases-items-more : goal.decreases-items-more
decreases-items-more l = l.depth

abbrev pub invariant-items-more : goal.invariant-items-more
invariant-items-more l = record {
  read : after (items_before (items_in l.items.items)) (reading.items l.depth (scope_of l.parser) (rest_of l.parser)) ≡ reading.items l.fn.depth (scope_of l.fn.parser) (rest_of l.fn.parser);
  less : l.depth ≤ l.fn.depth;
  around : l.around ≡ length l.fn.parser.inner;
  within : Within l.fn.parser l.parser;
}
