use Rattle.std.proofs.Common.{◌-◌, arith}
use Rattle.lt_tables.proofs.NumberPlaces.{number_more}
use Rattle.lt_tables.proofs.places.places_of.Goals as goal

pub numbers-preserved : goal.numbers-preserved
numbers-preserved c = record {
  left = omega (arith, c.numbers.invariant.left);
  places = number_more c.args.numbers.now c.numbers.left (c.numbers.left - 1) c.in_ok-place.place c.numbers.places c.insert.new.self c.in_ok-place.ensures (omega (arith, c.numbers-test.true)) c.numbers.invariant.left
      c.in_ok-insert.ensures.updates c.numbers.invariant.places;
}
