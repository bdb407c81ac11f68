use Rattle.std.proofs.Common.{◌+◌, drop}
use Rattle.lt_emit.specs.Emission.{EmitsWithin}
use Rattle.lt_emit.specs.Calling.{PassedStand, passed_cost}
use Rattle.lt_emit.proofs.expression.calling.passed.Given as goal

abbrev pub invariant-arguments : goal.invariant-arguments
invariant-arguments l =
    EmitsWithin l.fn.b l.b l.from (passed_cost (drop l.at l.arguments) (l.register + l.at))
    (PassedStand (drop l.at l.arguments) (l.register + l.at) l.to l.from)
