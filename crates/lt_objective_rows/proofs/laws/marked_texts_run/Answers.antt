use Rattle.lt_objective_rows.proofs.Runs.{each_time, evaluated, undefined, absolute, once, behind}
use Rattle.lt_objective_rows.proofs.laws.marked_texts_run.Goals as goal

pub returns : goal.returns
returns c = (each_time, evaluated, undefined, absolute, once, behind)
