use Rattle.std.proofs.Common.{◌-◌, ◌∙◌, arith}
use Rattle.lt_tables.proofs.NamePlaces.{name_more}
use Rattle.lt_tables.proofs.places.places_of_names.Goals as goal

pub names-preserved : goal.names-preserved
names-preserved c = record {
  left = omega (arith, c.names.invariant.left);
  places =
      name_more c.args.names.now c.names.left (c.names.left - 1) c.in_ok-place.place c.index-names-left.result c.in_ok-key.key.items c.names.places c.insert.new.self c.in_ok-place.ensures (omega (arith, c.names-test.true)) c.names.invariant.left
      (c.in_ok-key.ensures.items ∙ c.as_slice.ensures ∙ c.index-names-left.is) c.in_ok-insert.ensures.updates c.names.invariant.places;
}
