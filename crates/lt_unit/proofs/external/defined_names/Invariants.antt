use Rattle.std.proofs.Common.{◌≡◌, ◌++◌, map, drop}
use Rattle.std.specs.List.{filter_map}
use Rattle.lt_tree.specs.UnitView as source
use Rattle.lt_tree.specs.Typing.UnitTyping as typing
use Rattle.lt_unit.proofs.external.defined_names.Given as goal

abbrev pub invariant-list : goal.invariant-list
invariant-list l = l.all ++ filter_map typing.defined_in (map source.external_of (drop l.x-index l.list)) ≡ filter_map typing.defined_in (map source.external_of l.list)
