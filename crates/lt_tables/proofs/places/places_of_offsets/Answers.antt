use Rattle.std.proofs.Common.{◌-◌, arith, refl}
use Rattle.lt_tables.proofs.NumberPlaces.{number_more}
use Rattle.lt_tables.proofs.places.places_of_offsets.Goals as goal

pub offsets-preserved : goal.offsets-preserved
offsets-preserved c = record {
  left = omega (arith, c.offsets.invariant.left);
  places = number_more c.args.offsets.now c.offsets.left (c.offsets.left - 1) (c.offsets.left - 1) c.offsets.places c.insert.new.self refl (omega (arith, c.offsets-test.true)) c.offsets.invariant.left
      c.in_ok-insert.ensures.updates c.offsets.invariant.places;
}
