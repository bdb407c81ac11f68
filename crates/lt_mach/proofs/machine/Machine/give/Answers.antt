use Rattle.std.proofs.lemmas.Result.{IfOk-weaker}
use Rattle.lt_mach.proofs.Returning.{gives_value, gives_none}
use Rattle.lt_mach.proofs.machine.Machine.give.Goals as goal

pub returns-in-Ok : goal.returns-in-Ok
returns-in-Ok c = λ g code. IfOk-weaker _ _ _ (λ flow l. gives_value g code _ _ _ _ flow (c.in-Ok.ensures _) l) c.leave.ensures

pub returns-in-Err : goal.returns-in-Err
returns-in-Err c = λ g code. rw c.end.ensures (gives_none g code _ _ _ (c.in-Err.ensures _))
