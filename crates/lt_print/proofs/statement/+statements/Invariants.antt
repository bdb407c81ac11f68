use Rattle.std.proofs.Common.{◌≡◌, ◌++◌, drop}
use Rattle.lt_tree.specs.Pieces.{text_of}
use Rattle.lt_tree.specs.UnitView.{items_in, cases_in}
use Rattle.lt_tree.specs.CanonUnits.{item_lines, case_lines}
use Rattle.lt_print.proofs.statement.+statements.Given as goal

abbrev pub invariant-put_items-loop-item : goal.invariant-put_items-loop-item
invariant-put_items-loop-item l = l.out.items ++ text_of (item_lines l.line (items_in (drop l.item-index l.items))) ≡ l.fn.out.items ++ text_of (item_lines l.line (items_in l.items))

abbrev pub invariant-put_case_lines-loop-case : goal.invariant-put_case_lines-loop-case
invariant-put_case_lines-loop-case l = l.out.items ++ text_of (case_lines l.line (cases_in (drop l.case-index l.cases))) ≡ l.fn.out.items ++ text_of (case_lines l.line (cases_in l.cases))
