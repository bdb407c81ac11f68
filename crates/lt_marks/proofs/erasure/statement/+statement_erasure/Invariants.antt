use Rattle.std.proofs.Common.{◌≡◌, drop}
use Rattle.std.specs.Prelude.{map}
use Rattle.lt_tree.specs.Tree as tree
use Rattle.lt_tree.specs.UnitView.{label_of, statement_of, item_before, items_in, cases_in}
use Rattle.lt_tree.specs.Erasure.{erased_items, erased_cases}
use Rattle.lt_marks.proofs.Made.{before}
use Rattle.lt_marks.proofs.erasure.statement.+statement_erasure.Given as goal

abbrev pub invariant-plain_items-list : goal.invariant-plain_items-list
invariant-plain_items-list l = before item_before l.all.items (erased_items (items_in (drop l.item-index l.list))) ≡ erased_items (items_in l.list)

abbrev pub invariant-plain_cases-list : goal.invariant-plain_cases-list
invariant-plain_cases-list l =
    before (λ x. tree.a_case (map label_of x.labels.items) (statement_of x.statement)) l.all.items (erased_cases (cases_in (drop l.case-index l.list))) ≡ erased_cases (cases_in l.list)
