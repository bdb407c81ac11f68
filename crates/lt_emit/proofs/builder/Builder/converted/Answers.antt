use Rattle.lt_emit.proofs.Spent.{within_here, fitting}
use Rattle.lt_emit.proofs.builder.Builder.converted.Goals as goal

pub returns : goal.returns
returns c = within_here c.emit.ensures.code (λ from it p. (p.1.0, p.0)) (grind fitting)
