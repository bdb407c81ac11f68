use Rattle.lt_emit.proofs.Spent.{then1, fitting}
use Rattle.lt_lower.proofs.object.part_address.Goals as goal

pub returns : goal.returns
returns c = then1 c.in_ok-moved.ensures.code c.address.ensures (λ from here it p q. (_, q.1, p.0)) (λ here. grind fitting)
