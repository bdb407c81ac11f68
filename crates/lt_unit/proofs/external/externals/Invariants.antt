use Rattle.std.proofs.Common.{map, drop}
use Rattle.lt_tree.specs.UnitView as source
use Rattle.lt_tree.specs.Typing.Steps.{gives}
use Rattle.lt_tree.specs.Typing.UnitTyping as typing
use Rattle.lt_type.proofs.Turns.{Turning}
use Rattle.lt_unit.proofs.external.externals.Given as goal

abbrev pub invariant-list : goal.invariant-list
invariant-list l = Turning l.initial.walker l.walker (λ types. typing.externals (map source.external_of l.list)) (λ types. typing.externals (map source.external_of (drop l.x-index l.list))) (λ types u. gives u)
