use Rattle.lt_objective_typing.proofs.Clauses.{of_decisions}
use Rattle.lt_objective_typing.proofs.laws.decisions_give_predicates.Goals as goal

pub returns : goal.returns
returns c = of_decisions c.predicates_are_made.ensures
