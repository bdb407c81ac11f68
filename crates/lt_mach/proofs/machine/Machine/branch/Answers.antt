use Rattle.lt_mach.proofs.Ways.{branches, branch_ends}
use Rattle.lt_mach.proofs.machine.Machine.branch.Goals as goal
use Rattle.lt_mach.proofs.machine.Machine.branch.Goals.{then-is_so, else-is_so}

pub returns-after-is_so : goal.returns-after-is_so
returns-after-is_so c = λ g code.
    branches g code _ _ _ _ _ _ c.in-Ok.ensures (elim c.if-is_so.branch [
      | then-is_so w ↦ rw (w.self-is, w.if-is_so.true)
      | else-is_so w ↦ rw (w.self-is, w.if-is_so.false)
    ])

pub returns-in-Err : goal.returns-in-Err
returns-in-Err c = λ g code. rw c.end.ensures (branch_ends g code _ _ _ _ _ c.in-Err.ensures)
