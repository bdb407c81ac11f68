use Rattle.lt_acts.proofs.Noted.{target_goes, target_ends}
use Rattle.lt_acts.proofs.tracking.part.Goals as goal

pub returns-in-Err : goal.returns-in-Err
returns-in-Err c = λ g code next same s.
    rw c.in-Target.is (target_ends g code c.args.structs.now c.args.registers.now c.in-Target.register c.in-Target.access next c.args.memory.now.blocks s _ same c.in-Err.ensures)

pub returns-in-Ok : goal.returns-in-Ok
returns-in-Ok c = λ g code next same s.
    rw c.in-Target.is (target_goes g code c.args.structs.now c.args.registers.now c.in-Target.register c.in-Target.access next c.args.memory.now.blocks s same c.in-Ok.ensures)
