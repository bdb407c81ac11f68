use Rattle.lt_code.proofs.AgreeRuns.{agrees}
use Rattle.lt_code.proofs.laws.graphs_run_as_their_programs.Goals as goal

pub returns : goal.returns
returns c = agrees
