use Rattle.std.proofs.Common.{◌∙◌, ap, map, take_all}
use Rattle.lt_mach_parts.specs.Stubs.{place_from}
use Rattle.lt_mach_parts.proofs.Placed.{places_are}
use Rattle.lt_mach_parts.proofs.stubs.stub_places.Goals as goal

pub returns : goal.returns
returns c = c.loop-name.invariant ∙ ap (map (place_from 0 c.args.sets.now)) (take_all c.loop-name.name-index c.args.names.now c.loop-name-test.false) ∙ places_are c.args.sets.now c.args.names.now
