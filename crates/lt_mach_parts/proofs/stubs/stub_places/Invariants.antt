use Rattle.std.proofs.Common.{◌≡◌, take, map}
use Rattle.lt_mach_parts.specs.Stubs.{place_from}
use Rattle.lt_mach_parts.proofs.stubs.stub_places.Given as goal

abbrev pub invariant-loop-name : goal.invariant-loop-name
invariant-loop-name l = l.places.items ≡ map (place_from 0 l.sets) (take l.name-index l.names)
