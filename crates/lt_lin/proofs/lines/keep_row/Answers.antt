use Rattle.std.proofs.Common.{refl}
use Rattle.std.proofs.lemmas.Int.{to_z-of_z}
use Rattle.lt_lin.proofs.Taking.{contradiction_more}
use Rattle.lt_lin.proofs.lines.keep_row.Goals as goal

pub returns-clause-told : goal.returns-clause-told
returns-clause-told c =
    let fc = c.ranges.constant in
    let n = simp to_z-of_z at c.contradicts-contradiction.ensures in
    let rows = simp to_z-of_z at c.keep.ensures.rows in
    contradiction_more _ _ _ _ _ _ _ c.requires.told c.terms.ensures.same refl n rows
