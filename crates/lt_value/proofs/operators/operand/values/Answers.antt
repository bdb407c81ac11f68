use Rattle.lt_model.specs.Scalar.{IsValue}
use Rattle.lt_value.proofs.Cuts.{if_some_as, if_none_as}
use Rattle.lt_value.proofs.Operands.{taken_by_meet, none_by_meet}
use Rattle.lt_value.proofs.operators.operand.values.Goals as goal

pub returns-clause-some : goal.returns-clause-some
returns-clause-some c =
    if_some_as _ _ (λ p. taken_by_meet (IsValue c.args.model c.args.ty) c.args.n.now c.range.result p c.range.ensures) c.meet.result c.meet.ensures.some

pub returns-clause-none : goal.returns-clause-none
returns-clause-none c =
    if_none_as _ _ (none_by_meet (IsValue c.args.model c.args.ty) c.args.n.now c.range.result c.range.ensures) c.meet.result c.meet.ensures.none
