use Rattle.std.proofs.Common.{◌≡◌, ◌++◌, map, drop}
use Rattle.lt_facts.specs.Indices.{place_among}
use Rattle.lt_facts.proofs.indices.places_among.Given as goal

abbrev pub invariant-loop-number : goal.invariant-loop-number
invariant-loop-number l = l.places.items ++ map (place_among l.others) (drop l.number-index l.numbers) ≡ map (place_among l.others) l.numbers
