use Rattle.std.proofs.Common.{◌≡◌, ◌++◌, drop}
use Rattle.lt_facts.specs.Outside.{places_from}
use Rattle.lt_facts.proofs.outside.true_places.Given as goal

abbrev pub invariant-loop-place : goal.invariant-loop-place
invariant-loop-place l = l.places.items ++ places_from l.place (drop l.place l.flags) ≡ places_from 0 l.flags
