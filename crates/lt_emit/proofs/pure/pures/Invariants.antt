use Rattle.std.proofs.Common.{◌≡◌, ◌++◌, map, drop}
use Rattle.lt_ir.specs.PureView.{pure_of}
use Rattle.lt_tree.specs.Typing.ValueView.{bindings_in}
use Rattle.lt_tables.specs.Views.{types_at}
use Rattle.lt_code.specs.Predicates.{pures_bound}
use Rattle.lt_emit.specs.Names.{names_at}
use Rattle.lt_emit.proofs.pure.pures.Given as goal

abbrev pub invariant-bound : goal.invariant-bound
invariant-bound l =
    map pure_of l.all.items ++ pures_bound (names_at l.site) (bindings_in (types_at l.site.tables.now) (drop l.binding-index l.bound))
    ≡ pures_bound (names_at l.site) (bindings_in (types_at l.site.tables.now) l.bound)
