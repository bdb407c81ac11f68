use Rattle.lt_input_values.proofs.Narrowing.{unbounded}
use Rattle.lt_input_values.proofs.stubs.are_within.Goals as goal

pub returns-in-None : goal.returns-in-None
returns-in-None c = rw c.in-None.is (unbounded c.args.values.now)
