use Rattle.lt_objective_typing.proofs.Marked.{of_marked}
use Rattle.lt_objective_typing.proofs.laws.marked_expressions_have_predicates.Goals as goal

pub returns : goal.returns
returns c = of_marked c.predicates_are_made.ensures c.pure_expressions_are_there.ensures c.named_objects_are_known.ensures
