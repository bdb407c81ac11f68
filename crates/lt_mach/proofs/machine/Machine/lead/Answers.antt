use Rattle.std.proofs.Common.{Some}
use Rattle.lt_mach.proofs.machine.Machine.lead.Goals as goal

pub returns-in-Branch : goal.returns-in-Branch
returns-in-Branch c = rw c.in-Branch.is (c.branch-self.ensures c.args.graph.now (Some c.args.code.now))

pub returns-in-Switch : goal.returns-in-Switch
returns-in-Switch c =
    let t = rw c.in-Switch.is at c.requires.table in
    let h = c.switch.ensures c.args.graph.now (Some c.args.code.now) c.in-Switch.arms (rw c.as_slice.ensures t) in
    rw c.in-Switch.is (rw c.as_slice.ensures at h)

pub returns-in-Tick : goal.returns-in-Tick
returns-in-Tick c = rw c.in-Tick.is (c.tick.ensures c.args.graph.now (Some c.args.code.now))
