use Rattle.std.proofs.Common.{◌≡◌, rules}
use Rattle.lt_ir.specs.Tables.{arm_of}
use Rattle.lt_mach.proofs.Ways.{switches, switch_ends}
use Rattle.lt_mach.proofs.machine.Machine.switch.Goals as goal

pub returns-in-Ok : goal.returns-in-Ok
returns-in-Ok c = λ g code arms t.
    let e : c.follow-self.result ≡ arm_of c.args.table.now c.args.default c.in-Ok.z = search rules in
    switches g code c.args.self.now c.args.value c.args.default c.follow-self.result arms c.args.table.now c.in-Ok.z t (c.in-Ok.ensures _) e

pub returns-in-Err : goal.returns-in-Err
returns-in-Err c = λ g code arms t. rw c.end.ensures (switch_ends g code _ _ _ _ _ _ (c.in-Err.ensures _))
