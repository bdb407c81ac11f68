use Rattle.std.proofs.Common.{drop}
use Rattle.std.specs.Prelude.{map}
use Rattle.lt_tree.specs.Tree as tree
use Rattle.lt_tree.specs.UnitView.{label_of, statement_of, item_before, items_in, cases_in}
use Rattle.lt_tree.specs.Nodes.{in_items, in_cases}
use Rattle.lt_objectives.specs.Marked.{items_with_marks, cases_with_marks}
use Rattle.lt_placing.proofs.Loops.{ComesFar}
use Rattle.lt_placing.proofs.statement.+statements.Given as goal

abbrev pub invariant-items-list : goal.invariant-items-list
invariant-items-list l = ComesFar item_before (λ new k xs. items_with_marks new k (items_in xs)) (λ xs. in_items (items_in xs)) l.initial.walk l.walk l.all.items l.list (drop l.each-index l.list)

abbrev pub invariant-cases-list : goal.invariant-cases-list
invariant-cases-list l = ComesFar (λ y. tree.a_case (map label_of y.labels.items) (statement_of y.statement)) (λ new k xs. cases_with_marks new k (cases_in xs)) (λ xs. in_cases (cases_in xs)) l.initial.walk l.walk l.all.items l.list (drop l.each-index l.list)
