use Rattle.std.proofs.Common.{◌≡◌, max, drop}
use Rattle.std.specs.Prelude.{map}
use Rattle.lt_tree.specs.UnitView.{external_of}
use Rattle.lt_tree.specs.Ids.{greatest_id, ids_of_unit}
use Rattle.lt_marks.proofs.ids.unit.in_externals.Given as goal

abbrev pub invariant-list : goal.invariant-list
invariant-list l = max l.best (greatest_id (ids_of_unit (map external_of (drop l.external-index l.list)))) ≡ greatest_id (ids_of_unit (map external_of l.list))
