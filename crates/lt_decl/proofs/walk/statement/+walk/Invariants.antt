use Rattle.std.proofs.Common.{◌≡◌, drop}
use Rattle.lt_tree.specs.UnitView.{items_in, cases_in}
use Rattle.lt_decl.specs.Walk.{walk_items, walk_cases}
use Rattle.lt_decl.proofs.walk.statement.+walk.Given as goal

abbrev pub invariant-items-items : goal.invariant-items-items
invariant-items-items l = l.walker ≡ walk_items (items_in (drop l.at l.list)) l.initial.walker

abbrev pub invariant-cases-cases : goal.invariant-cases-cases
invariant-cases-cases l = l.walker ≡ walk_cases (cases_in (drop l.at l.list)) l.initial.walker
