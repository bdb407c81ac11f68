use Rattle.std.proofs.Common.{refl}
use Rattle.lt_value.proofs.Members.{lo_holds}
use Rattle.lt_value.proofs.operators.truth.meets.Goals as goal

pub returns-in-Some : goal.returns-in-Some
returns-in-Some c =
    let n = c.in-Some.field-0 in
    let h = (c.in-Some.ensures.some n.lo).0 (lo_holds n) in
    (λ t. (n.lo, h.0, h.1), λ k. refl)
