use Rattle.lt_emit.specs.Emission.{IsSound, IsEntrance, EmitsWithin}
use Rattle.lt_lower.proofs.Parameters.{sealed_cost, SealsRest}
use Rattle.lt_lower.proofs.function.parameters.parameters_sealed.Given as goal

abbrev pub invariant-parameters : goal.invariant-parameters
invariant-parameters l =
    record {
      code : EmitsWithin l.fn.b l.b l.from (sealed_cost l.at) (SealsRest l.to l.from l.at);
      opens : IsSound l.fn.b → IsEntrance l.fn.b l.to → IsEntrance l.b l.from;
    }
