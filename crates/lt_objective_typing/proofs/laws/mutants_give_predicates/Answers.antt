use Rattle.lt_objective_typing.proofs.Mutants.{of_mutants}
use Rattle.lt_objective_typing.proofs.laws.mutants_give_predicates.Goals as goal

pub returns : goal.returns
returns c = of_mutants c.predicates_are_made.ensures
