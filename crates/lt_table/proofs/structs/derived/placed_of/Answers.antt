use Rattle.std.proofs.Common.{inl, inr}
use Rattle.lt_table.specs.StructTables.{pairs_of}
use Rattle.lt_table.proofs.StructMembers.{pairs_done}
use Rattle.lt_table.proofs.structs.derived.placed_of.Goals as goal

pub returns : goal.returns
returns c =
    let it = c.loop-member.member-iterator in
    pairs_done c.loop-member.placed.items (pairs_of c.args.members.now c.args.offsets.now) it.a.rest.now it.b.rest.now
    (elim c.in-None.ensures.steps [ inl x ↦ inl x.1.0 | inr x ↦ inr x.1.0 ])
    c.loop-member.invariant
