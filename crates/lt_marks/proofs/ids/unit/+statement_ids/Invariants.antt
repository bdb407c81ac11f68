use Rattle.std.proofs.Common.{◌≡◌, max, drop}
use Rattle.lt_tree.specs.UnitView.{items_in, cases_in}
use Rattle.lt_tree.specs.Ids.{greatest_id, ids_in_items, ids_in_cases}
use Rattle.lt_marks.proofs.ids.unit.+statement_ids.Given as goal

abbrev pub invariant-in_items-list : goal.invariant-in_items-list
invariant-in_items-list l = max l.best (greatest_id ((ids_in_items (items_in (drop l.item-index l.list))))) ≡ greatest_id ((ids_in_items (items_in l.list)))

abbrev pub invariant-in_cases-list : goal.invariant-in_cases-list
invariant-in_cases-list l = max l.best (greatest_id ((ids_in_cases (cases_in (drop l.case-index l.list))))) ≡ greatest_id ((ids_in_cases (cases_in l.list)))
