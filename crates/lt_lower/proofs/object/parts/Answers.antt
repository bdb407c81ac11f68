use Rattle.std.proofs.Common.{arith}
use Rattle.lt_emit.proofs.Spent.{as_given}
use Rattle.lt_lower.proofs.Objects.{parts_none, parts_more, parts_all}
use Rattle.lt_lower.proofs.object.parts.Goals as goal

pub parts-init : goal.parts-init
parts-init c = parts_none c.args.object c.args.all.now _ c.args.to (omega arith) c.requires

pub part-requires : goal.part-requires
part-requires c = c.parts.invariant.emits.within

pub parts-preserved : goal.parts-preserved
parts-preserved c =
    parts_more c.args.object c.args.all.now c.parts.at c.args.to c.parts.from c.index-all-at.result c.in_ok-from.from
    c.parts-test.true (omega (arith, c.parts.auto.at)) c.index-all-at.is c.parts.invariant c.in_ok-from.ensures

pub returns : goal.returns
returns c = as_given (parts_all c.args.object c.args.all.now c.parts.at c.args.to c.parts.from (omega arith) c.parts.invariant)
