use Rattle.lt_emit.proofs.Spent.{then1, fitting}
use Rattle.lt_lower.proofs.flow.simple.evaluates.Goals as goal

pub returns-clause-enters : goal.returns-clause-enters
returns-clause-enters c sound = c.tick.ensures.enters (c.in_ok-value.ensures.gives.code.adds.grows.sound sound)

pub returns-clause-code : goal.returns-clause-code
returns-clause-code c = then1 c.in_ok-value.ensures c.tick.ensures.code (λ from here it p q known. (_, q, p known)) (λ here. grind fitting)
