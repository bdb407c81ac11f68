use Rattle.std.proofs.Common.{◌≡◌, max, drop}
use Rattle.lt_tree.specs.UnitView.{initialisers_in}
use Rattle.lt_tree.specs.Ids.{greatest_id, ids_in_initialisers}
use Rattle.lt_marks.proofs.ids.unit.+initialiser_ids.Given as goal

abbrev pub invariant-in_initialisers-list : goal.invariant-in_initialisers-list
invariant-in_initialisers-list l = max l.best (greatest_id ((ids_in_initialisers (initialisers_in (drop l.part-index l.list))))) ≡ greatest_id ((ids_in_initialisers (initialisers_in l.list)))
