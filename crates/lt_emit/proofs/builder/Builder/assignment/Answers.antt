use Rattle.std.proofs.Common.{ℕ, ◌+◌}
use Rattle.lt_emit.specs.Emission.{Here, Finished, GivesWithin, costs}
use Rattle.lt_emit.specs.Accesses.{IsAccess, AssignmentStands}
use Rattle.lt_emit.proofs.Accessing.{there_still}
use Rattle.lt_emit.proofs.Spent.{then4, put_first, fitting}
use Rattle.lt_emit.proofs.builder.Builder.assignment.Goals as goal

pub returns : goal.returns
returns c =
    let Stored : ℕ → Here → Finished → Type 0 =
    λ from here it. IsAccess c.args.ty c.in_ok-access.access here it
    → AssignmentStands c.args.ty c.args.v.now c.args.register c.args.to from here it in
    let code : GivesWithin _ _ c.reads_by.result (costs 5 (c.args.register + 2)) Stored =
    then4 {V = Stored} c.in_ok-stored.ensures c.in_ok-converted.ensures c.in_ok-aimed.ensures c.in_ok-joined.ensures c.reads_by.ensures
    (λ from here it stored late aimed joined read is. ((stored is).0, (_, read is, (_, joined, (_, aimed is, (_, late, (stored is).1))))))
    (λ here. grind fitting) in
    put_first c.in_ok-access.ensures.adds c.in_ok-access.ensures.spends code (λ from here it is stands. stands is)

pub reads_by-requires-clause-there : goal.reads_by-requires-clause-there
reads_by-requires-clause-there c =
    there_still _ c.in_ok-joined.ensures.gives.code.adds.grows
    (there_still _ c.in_ok-aimed.ensures.gives.code.adds.grows
    (there_still _ c.in_ok-converted.ensures.gives.code.adds.grows
    (there_still _ c.in_ok-stored.ensures.gives.code.adds.grows c.in_ok-access.ensures.there)))

pub target-requires-clause-there : goal.target-requires-clause-there
target-requires-clause-there c =
    there_still _ c.in_ok-converted.ensures.gives.code.adds.grows
    (there_still _ c.in_ok-stored.ensures.gives.code.adds.grows c.in_ok-access.ensures.there)
