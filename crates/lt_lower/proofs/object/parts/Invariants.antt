use Rattle.std.proofs.Common.{drop}
use Rattle.lt_emit.specs.Emission.{EmitsWithin}
use Rattle.lt_lower.specs.Stands.{parts_cost, PartsStand}
use Rattle.lt_lower.proofs.object.parts.Given as goal

abbrev pub invariant-parts : goal.invariant-parts
invariant-parts l =
    EmitsWithin l.fn.b l.b l.from (parts_cost (drop l.at l.all)) (PartsStand l.object (drop l.at l.all) l.to l.from)
