use Rattle.lt_objective_rows.proofs.Texts.{decisions, clauses, combinations, of_negations, constant, eight, starts, parameters, mutants, commas, others, places}
use Rattle.lt_objective_rows.proofs.laws.objectives_are_marked.Goals as goal

pub returns : goal.returns
returns c = (decisions, clauses, combinations, of_negations, constant, eight, starts, parameters, mutants, commas, others, places)
