use Rattle.lt_code.proofs.AgreeRuns.{only_run}
use Rattle.lt_code.proofs.laws.graphs_run_in_no_other_way.Goals as goal

pub returns : goal.returns
returns c = only_run
