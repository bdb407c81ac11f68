use Rattle.lt_code.specs.Costs.{alone}
use Rattle.lt_emit.specs.Spending.{Spends}
use Rattle.lt_emit.specs.Emission.{IsSound, IsEntrance, Adds, HasPoint}
use Rattle.lt_lower.proofs.Parameters.{EndsRest}
use Rattle.lt_lower.proofs.function.parameters.parameters_end.Given as goal

abbrev pub invariant-parameters : goal.invariant-parameters
invariant-parameters l =
    record {
      adds : Adds l.fn.b l.b (EndsRest l.to l.from l.at);
      spends : Spends (alone l.at) l.fn.b l.b;
      within : HasPoint l.b l.from;
      opens : IsSound l.fn.b → IsEntrance l.fn.b l.to → IsEntrance l.b l.from;
    }
