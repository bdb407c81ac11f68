use Rattle.std.proofs.Common.{◌+◌, ◌<◌, drop, arith}
use Rattle.lt_emit.specs.Emission.{site_in}
use Rattle.lt_emit.specs.Calling.{PassedStand, passed_cost}
use Rattle.lt_emit.proofs.Arguments.{passed_more}
use Rattle.lt_emit.proofs.Spent.{two_more_within, fitting}
use Rattle.lt_emit.proofs.expression.calling.passed.Goals as goal

pub arguments-preserved : goal.arguments-preserved
arguments-preserved c =
    let row = c.args.arguments.now in
    let k = c.arguments.at in
    let some : 0 < k = c.arguments-test.true in
    two_more_within (λ row k. passed_cost row (c.args.register + k)) (λ row k. PassedStand row (c.args.register + k) c.args.to) row k c.arguments.from c.index-arguments-at.result
    c.in_ok-from.from some (omega (arith, c.arguments.auto.at)) c.index-arguments-at.is c.arguments.invariant
    c.in_ok-there.ensures c.in_ok-from.ensures
    (λ here it p q r. passed_more (site_in here it) here.types (drop k row) c.args.register k _ _ _ _ c.index-arguments-at.result some
    r q.1 p) (λ here. grind (fitting, some))
