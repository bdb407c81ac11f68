use Rattle.lt_elim.proofs.Tracing.{nothing_derived}
use Rattle.lt_elim.proofs.log.log_of.Goals as goal

pub returns : goal.returns
returns c = nothing_derived c.args.rows.now (record { lines = c.new.result; count = c.in-Ok.count }) c.new.ensures.items c.in-Ok.ensures.1
