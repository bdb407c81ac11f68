use Rattle.std.proofs.Common.{sym, ap, ◌∙◌}
use Rattle.lt_ir.specs.Graph.{with_footprint, footprint_at}
use Rattle.lt_acts.proofs.Answering.{same_put, none_written}
use Rattle.lt_acts.proofs.storing.note_write.Goals as goal

pub returns-in-None : goal.returns-in-None
returns-in-None c = rw c.in-None.is (sym (ap (with_footprint c.args.registers.now c.args.r) (none_written (footprint_at c.args.registers.now c.args.r)) ∙ same_put c.args.registers.now c.args.r))
