use Rattle.lt_lin.proofs.Soundness.{unsatisfied}
use Rattle.lt_lin.proofs.room.check_lines.Goals as goal

pub returns-clause-unsatisfied : goal.returns-clause-unsatisfied
returns-clause-unsatisfied c = λ t.
    let a = rw c.as_slice.ensures.value at c.in-Ok.ensures.answer in
    unsatisfied _ _ (a.0 t)
