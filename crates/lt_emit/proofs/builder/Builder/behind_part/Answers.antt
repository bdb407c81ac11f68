use Rattle.std.proofs.Common.{Bool, ◌+◌, sym, subst}
use Rattle.lt_emit.specs.Emission.{GivesWithin, costs, PieceStands}
use Rattle.lt_emit.specs.Connecting.{behind_part}
use Rattle.lt_emit.proofs.builder.Builder.behind_part.Goals as goal

pub returns-then-is_last : goal.returns-then-is_last
returns-then-is_last c =
    let Is : Bool → Type 0 =
    λ b. GivesWithin c.args.self.now c.joined.new.self c.joined.result (costs 2 (c.args.register + 2)) (PieceStands (λ s. behind_part s b c.args.register) c.args.to) in
    subst Is (sym c.if-is_last.true) c.joined.ensures

pub returns-else-is_last : goal.returns-else-is_last
returns-else-is_last c =
    let Is : Bool → Type 0 =
    λ b. GivesWithin c.args.self.now c.settled.new.self c.settled.result (costs 2 (c.args.register + 2)) (PieceStands (λ s. behind_part s b c.args.register) c.args.to) in
    subst Is (sym c.if-is_last.false) c.settled.ensures
