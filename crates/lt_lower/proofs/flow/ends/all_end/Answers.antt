use Rattle.std.proofs.Common.{◌*◌, arith}
use Rattle.lt_code.specs.Costs.{alone}
use Rattle.lt_emit.proofs.Spent.{spends_none, spends_both, spends_within, fitting}
use Rattle.lt_lower.proofs.Flows.{nothing_added}
use Rattle.lt_lower.proofs.Ends.{all_end_more, all_end_none}
use Rattle.lt_lower.proofs.flow.ends.all_end.Goals as goal

pub objects-init : goal.objects-init
objects-init c = record {
  adds = nothing_added (λ it last ended. ended);
  spends = spends_none (alone (5 * 0));
  within = c.requires;
}

pub ends-requires : goal.ends-requires
ends-requires c = c.objects.invariant.within

pub objects-preserved : goal.objects-preserved
objects-preserved c = record {
  adds = all_end_more c.args.its.now c.objects.it-index c.it-item.result c.objects.inner c.in_ok-inner.inner c.args.outer
      c.objects-test.true c.it-item.is c.objects.invariant.adds c.in_ok-inner.ensures.adds;
  spends = spends_within (spends_both c.objects.invariant.spends c.in_ok-inner.ensures.spends) (grind fitting);
  within = c.in_ok-inner.ensures.within;
}

pub returns : goal.returns
returns c = record {
  adds = all_end_none c.args.its.now c.objects.it-index c.objects.inner c.args.outer (omega arith) c.objects.invariant.adds;
  spends = spends_within c.objects.invariant.spends (grind fitting);
  within = c.objects.invariant.within;
}
