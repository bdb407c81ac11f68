use Rattle.std.proofs.Common.{◌++◌, map, ap}
use Rattle.std.specs.List.{filter_map}
use Rattle.lt_tree.specs.UnitView as source
use Rattle.lt_tree.specs.Typing.UnitTyping as typing
use Rattle.lt_unit.proofs.Units.{names_more, all_names}
use Rattle.lt_unit.proofs.external.defined_names.Goals as goal

pub list-init : goal.list-init
list-init c = ap (λ l. l ++ filter_map typing.defined_in (map source.external_of c.args.list.now)) c.new-all.ensures

pub list-preserved : goal.list-preserved
list-preserved c = names_more typing.defined_in source.external_of c.args.list.now c.list.x-index c.x-item.result _ _ _ c.list-test.true c.x-item.is c.list.invariant c.in_ok-add_defined.ensures

pub returns : goal.returns
returns c = all_names typing.defined_in source.external_of c.args.list.now c.list.x-index _ _ c.list-test.false c.list.invariant
