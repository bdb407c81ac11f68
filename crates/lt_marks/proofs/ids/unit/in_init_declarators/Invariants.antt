use Rattle.std.proofs.Common.{◌≡◌, max, drop}
use Rattle.std.specs.Prelude.{map}
use Rattle.std.specs.List.{flat_map}
use Rattle.lt_tree.specs.UnitView.{init_declarator_of}
use Rattle.lt_tree.specs.Ids.{greatest_id, ids_in_init_declarator}
use Rattle.lt_marks.proofs.ids.unit.in_init_declarators.Given as goal

abbrev pub invariant-list : goal.invariant-list
invariant-list l = max l.best (greatest_id ((flat_map ids_in_init_declarator (map init_declarator_of (drop l.d-index l.list))))) ≡ greatest_id ((flat_map ids_in_init_declarator (map init_declarator_of l.list)))
