use Rattle.std.proofs.Common.{drop}
use Rattle.lt_emit.specs.Emission.{EmitsWithin}
use Rattle.lt_lower.specs.Stands.{OpeningsStand, openings_cost}
use Rattle.lt_lower.proofs.flow.start.openings.Given as goal

abbrev pub invariant-objects : goal.invariant-objects
invariant-objects l =
    EmitsWithin l.fn.b l.b l.from (openings_cost (drop l.at l.its)) (OpeningsStand (drop l.at l.its) l.to l.from)
