use Rattle.std.proofs.Common.{arith}
use Rattle.lt_emit.proofs.Spent.{then1, fitting}
use Rattle.lt_emit.proofs.Arguments.{joins_more, joins_all}
use Rattle.lt_emit.proofs.expression.calling.joins.Goals as goal

pub arguments-preserved : goal.arguments-preserved
arguments-preserved c =
    joins_more c.args.arguments.now c.arguments.at c.args.register c.args.to c.arguments.from c.index-arguments-at.result c.in_ok-from.from
    c.arguments-test.true c.index-arguments-at.is c.arguments.invariant c.in_ok-from.ensures

pub returns : goal.returns
returns c =
    then1 (joins_all c.args.arguments.now c.arguments.at c.args.register c.args.to c.arguments.from (omega (arith, c.arguments-test.false))
    (omega (arith, c.arguments.auto.at-end)) c.arguments.invariant) c.constant.ensures (λ from here it p q. (_, q, p)) (λ here. grind fitting)
