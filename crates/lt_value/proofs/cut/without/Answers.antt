use Rattle.std.proofs.Common.{arith}
use Rattle.std.proofs.lemmas.Int.{ints}
use Rattle.lt_value.proofs.Cuts.{if_but_above, if_but_none, but_only_below, but_joined}
use Rattle.lt_value.proofs.cut.without.Goals as goal

pub returns-in-None-clause-some : goal.returns-in-None-clause-some
returns-in-None-clause-some c =
    if_but_above c.args.n.now c.args.k _ _ c.from_on.result c.in-None.ensures.none c.from_on.ensures.some
    (record { under = omega (arith, ints, c.requires.least, c.requires.greatest); over = omega (arith, ints, c.requires.least, c.requires.greatest) })

pub returns-in-None-clause-none : goal.returns-in-None-clause-none
returns-in-None-clause-none c =
    if_but_none c.args.n.now c.args.k _ _ c.from_on.result c.in-None.ensures.none c.from_on.ensures.none
    (record { under = omega (arith, ints, c.requires.least, c.requires.greatest); over = omega (arith, ints, c.requires.least, c.requires.greatest) })

pub returns-in-None-from_on-clause-some : goal.returns-in-None-from_on-clause-some
returns-in-None-from_on-clause-some c =
    but_only_below c.args.n.now c.in-Some.below c.args.k _ _ c.in-Some.ensures.some c.in-None-from_on.ensures.none
    (record { under = omega (arith, ints, c.requires.least, c.requires.greatest); over = omega (arith, ints, c.requires.least, c.requires.greatest) })

pub returns-in-Some-from_on-clause-some : goal.returns-in-Some-from_on-clause-some
returns-in-Some-from_on-clause-some c =
    but_joined c.args.n.now c.in-Some.below c.in-Some-from_on.above c.join.result c.args.k _ _ c.in-Some.ensures.some c.in-Some-from_on.ensures.some c.join.ensures.left c.join.ensures.right c.join.ensures.least
    (record { under = omega (arith, ints, c.requires.least, c.requires.greatest); over = omega (arith, ints, c.requires.least, c.requires.greatest) })
