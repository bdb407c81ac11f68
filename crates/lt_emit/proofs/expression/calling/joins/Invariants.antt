use Rattle.lt_emit.specs.Emission.{EmitsWithin}
use Rattle.lt_emit.proofs.Arguments.{JoinsAll, joined_cost}
use Rattle.lt_emit.proofs.expression.calling.joins.Given as goal

abbrev pub invariant-arguments : goal.invariant-arguments
invariant-arguments l =
    EmitsWithin l.fn.b l.b l.from (joined_cost l.at l.register) (JoinsAll l.arguments l.at l.register l.to l.from)
