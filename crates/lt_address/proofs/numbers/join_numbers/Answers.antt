use Rattle.lt_address.proofs.Pointing.{joined_both}
use Rattle.lt_address.proofs.numbers.join_numbers.Goals as goal

pub returns-in-Some-Some : goal.returns-in-Some-Some
returns-in-Some-Some c =
    let e = c.join.ensures in
    rw (c.in-Some-Some.is-0, c.in-Some-Some.is-1) (joined_both c.in-Some-Some.m c.in-Some-Some.n c.join.result e.left e.right e.least)
