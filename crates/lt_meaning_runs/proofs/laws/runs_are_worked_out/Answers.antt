use Rattle.lt_meaning_runs.proofs.Samples.{division, unsequenced, no_input, ticks, divided, twice, before_a_call, ended, past_the_end, quiet}
use Rattle.lt_meaning_runs.proofs.UsedValues.{worked_out}
use Rattle.lt_meaning_runs.proofs.laws.runs_are_worked_out.Goals as goal

pub returns : goal.returns
returns c = (division, unsequenced, no_input, ticks, divided, twice, before_a_call, ended, past_the_end, quiet, worked_out)
