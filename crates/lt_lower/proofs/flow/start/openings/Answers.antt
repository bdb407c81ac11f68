use Rattle.std.proofs.Common.{arith}
use Rattle.lt_emit.proofs.Spent.{as_given}
use Rattle.lt_lower.proofs.Ends.{openings_none, openings_more, openings_all}
use Rattle.lt_lower.proofs.flow.start.openings.Goals as goal

pub objects-init : goal.objects-init
objects-init c = openings_none c.args.its.now _ c.args.to (omega arith) c.requires

pub opening-requires : goal.opening-requires
opening-requires c = c.objects.invariant.emits.within

pub objects-preserved : goal.objects-preserved
objects-preserved c =
    openings_more c.args.its.now c.objects.at c.args.to c.objects.from c.index-its-at.result c.in_ok-from.from
    c.objects-test.true (omega (arith, c.objects.auto.at)) c.index-its-at.is c.objects.invariant c.in_ok-from.ensures.code

pub returns : goal.returns
returns c = as_given (openings_all c.args.its.now c.objects.at c.args.to c.objects.from (omega arith) c.objects.invariant)
