use Rattle.std.proofs.Common.{◌-◌, ◌∙◌, arith}
use Rattle.lt_table.proofs.StructPlaces.{places_more}
use Rattle.lt_table.proofs.structs.StructTable.places_of.Goals as goal

pub members-preserved : goal.members-preserved
members-preserved c = record {
  left = omega (arith, c.members.invariant.left);
  places =
      places_more c.args.members.now c.members.left (c.members.left - 1) c.index-members-left.result c.in_ok-key.key.items c.members.places c.insert.new.self (omega (arith, c.members-test.true)) c.members.invariant.left
      (c.in_ok-key.ensures.items ∙ c.as_slice.ensures) c.in_ok-insert.ensures.updates c.members.invariant.places;
}
