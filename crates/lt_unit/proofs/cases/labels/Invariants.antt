use Rattle.std.proofs.Common.{map, drop}
use Rattle.lt_tree.specs.UnitView as source
use Rattle.lt_tree.specs.Typing.Steps.{gives}
use Rattle.lt_tree.specs.Typing.StatementView as view
use Rattle.lt_tree.specs.Typing.StatementTyping as typing
use Rattle.lt_type.proofs.Turns.{Turning}
use Rattle.lt_unit.proofs.CaseTurns.{labelled_before}
use Rattle.lt_unit.proofs.cases.labels.Given as goal

abbrev pub invariant-list : goal.invariant-list
invariant-list l = Turning l.fn.walker l.walker (λ types. typing.labels (map source.label_of l.list) l.ty l.fn.seen) (λ types. typing.labels (map source.label_of (drop l.one-index l.list)) l.ty l.seen)
    (λ types others. gives (labelled_before (map view.label_of l.all.items) others))
