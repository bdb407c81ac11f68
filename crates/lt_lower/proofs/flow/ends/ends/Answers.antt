use Rattle.lt_emit.proofs.Spent.{spends_both, spends_within, fitting}
use Rattle.lt_lower.proofs.Ends.{five_ends}
use Rattle.lt_lower.proofs.flow.ends.ends.Goals as goal

pub returns : goal.returns
returns c =
    let all = five_ends
    (record {
      next = c.in_ok-next.next;
      back = c.in_ok-back.back;
      leaves = c.in_ok-leaves.leaves;
      breaks = c.in_ok-breaks.breaks;
      continues = c.in_ok-continues.continues;
    })
    c.in_ok-next.ensures.gives.code c.in_ok-back.ensures.gives.code c.in_ok-leaves.ensures.gives.code c.in_ok-breaks.ensures.gives.code
    c.in_ok-continues.ensures.gives.code
    (λ here it p q r s t. (p, q, r, s, t)) in
    record {
      adds = all.0;
      spends = spends_within (spends_both (spends_both (spends_both (spends_both c.in_ok-next.ensures.spends c.in_ok-back.ensures.spends)
          c.in_ok-leaves.ensures.spends) c.in_ok-breaks.ensures.spends) c.in_ok-continues.ensures.spends) (grind fitting);
      within = all.1;
    }
