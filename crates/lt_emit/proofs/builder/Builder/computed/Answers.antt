use Rattle.lt_emit.proofs.Spent.{then2, fitting}
use Rattle.lt_emit.proofs.builder.Builder.computed.Goals as goal

pub returns : goal.returns
returns c =
    then2 c.in_ok-back.ensures c.in_ok-applied.ensures.code c.converted.ensures
    (λ from here it back applied first. (_, first.1, (_, applied.0, back))) (λ here. grind fitting)
