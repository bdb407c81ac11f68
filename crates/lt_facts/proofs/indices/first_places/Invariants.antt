use Rattle.std.proofs.Common.{◌≡◌, ℕ, nat_eq, take}
use Rattle.std.specs.HashMap.{get}
use Rattle.lt_facts.specs.Indices.{first_place}
use Rattle.lt_facts.proofs.indices.first_places.Given as goal

abbrev pub invariant-loop-place : goal.invariant-loop-place
invariant-loop-place l = (n : ℕ) → get nat_eq l.places n ≡ first_place n (take l.place l.numbers)
