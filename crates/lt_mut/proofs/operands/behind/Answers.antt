use Rattle.std.proofs.Common.{rules, tests}
use Rattle.lt_mut.proofs.Parts.{behind_part}
use Rattle.lt_mut.proofs.operands.behind.Goals as goal

pub returns-in-Some : goal.returns-in-Some
returns-in-Some c unit e are at =
    behind_part c.args.sites.now c.args.k c.in-Some.site.now c.min.result unit e (search (rules, tests, c.in-Some.ensures.lookup.0)) c.in-Some.ensures.lookup.1 c.min.ensures are at
