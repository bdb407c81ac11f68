use Rattle.lt_marked_runs.proofs.Steps.{made_in_steps}
use Rattle.lt_marked_runs.proofs.laws.programs_are_made_in_steps.Goals as goal

pub returns : goal.returns
returns c = made_in_steps
