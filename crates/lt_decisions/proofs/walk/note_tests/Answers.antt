use Rattle.std.proofs.Common.{arith}
use Rattle.lt_decisions.proofs.Steps.{starts, finds}
use Rattle.lt_decisions.proofs.walk.note_tests.Goals as goal

pub walk-init : goal.walk-init
walk-init c =
    let is = c.in-Some.ensures.lookup.1 in
    (omega (arith, c.behind-last.ensures), λ e stand. starts c.args.sites.now c.args.tests c.args.first c.behind-last.result c.args.found.now c.in-Some.site.now e is c.behind-last.ensures stand)

pub returns : goal.returns
returns c e stand = finds c.args.sites.now c.args.tests c.walk.at c.behind-last.result c.walk.found _ c.walk-test.false (c.walk.invariant.1 e stand)
