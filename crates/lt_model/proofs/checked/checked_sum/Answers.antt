use Rattle.std.proofs.lemmas.Int.{to_z-of_z}
use Rattle.lt_model.proofs.Fitting.{fitting_from_checked}
use Rattle.lt_model.proofs.checked.checked_sum.Goals as goal

pub returns : goal.returns
returns c =
    let fa = c.ranges.a in
    let fb = c.ranges.b in
    fitting_from_checked _ _ (simp to_z-of_z at c.checked_add.ensures)
