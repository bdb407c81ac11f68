use Rattle.lt_objective_typing.proofs.Places.{of_objectives}
use Rattle.lt_objective_typing.proofs.laws.objectives_have_predicates.Goals as goal

pub returns : goal.returns
returns c = of_objectives c.predicates_are_made.ensures c.pure_expressions_are_there.ensures c.named_objects_are_known.ensures
