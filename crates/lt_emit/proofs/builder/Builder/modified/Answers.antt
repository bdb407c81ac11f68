use Rattle.std.proofs.Common.{◌+◌, sym, subst}
use Rattle.lt_emit.specs.declared.changes.Change.{Change}
use Rattle.lt_emit.specs.Emission.{GivesWithin, costs, TypedStands}
use Rattle.lt_emit.specs.Operators.{change_nodes, modified}
use Rattle.lt_emit.proofs.builder.Builder.modified.Goals as goal

pub returns-in-Computed : goal.returns-in-Computed
returns-in-Computed c =
    let Is : Change → Type 0 =
    λ change. GivesWithin c.args.self.now c.computed.new.self c.computed.result (costs (change_nodes change) (c.args.register + 4))
    (TypedStands (λ s t. modified change s t c.args.register) c.args.ty c.args.to) in
    subst Is (sym c.in-Computed.is) c.computed.ensures
