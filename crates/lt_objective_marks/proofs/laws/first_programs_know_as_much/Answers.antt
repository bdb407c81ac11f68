use Rattle.lt_objective_marks.proofs.KnowAsMuch.{first_programs_know}
use Rattle.lt_objective_marks.proofs.laws.first_programs_know_as_much.Goals as goal

pub returns : goal.returns
returns c = first_programs_know c.nodes_are_numbered.ensures.parts c.marked_units_know_the_same.ensures c.objectives_are_found_by_either.ensures
