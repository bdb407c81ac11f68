use Rattle.lt_emit.proofs.Spent.{then1, fitting}
use Rattle.lt_emit.proofs.builder.Builder.joined.Goals as goal

pub returns : goal.returns
returns c = then1 c.in_ok-moved.ensures.code c.clash.ensures (λ from here it p q. (p.1.1, (_, q, p.0))) (λ here. grind fitting)
