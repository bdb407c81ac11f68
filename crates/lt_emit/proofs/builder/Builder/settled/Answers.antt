use Rattle.lt_emit.proofs.Spent.{then1, fitting}
use Rattle.lt_emit.proofs.builder.Builder.settled.Goals as goal

pub returns : goal.returns
returns c = then1 c.in_ok-joined.ensures c.clash-2.ensures (λ from here it p q. (_, q, p)) (λ here. grind fitting)
