use Rattle.lt_emit.proofs.Spent.{then2, fitting}
use Rattle.lt_lower.proofs.flow.simple.gives_back.Goals as goal

pub returns-clause-enters : goal.returns-clause-enters
returns-clause-enters c sound =
    c.tick.ensures.enters (c.in_ok-value.ensures.gives.code.adds.grows.sound (c.in_ok-held.ensures.gives.code.adds.grows.sound sound))

pub returns-clause-code : goal.returns-clause-code
returns-clause-code c =
    then2 c.in_ok-held.ensures c.in_ok-value.ensures c.tick.ensures.code
    (λ from here it p q r known. (p.0, (_, r, (_, q known, p.1)))) (λ here. grind fitting)
