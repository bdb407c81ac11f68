use Rattle.std.proofs.Common.{refl}
use Rattle.lt_model.specs.Scalar.{IsValue}
use Rattle.lt_value.proofs.Cuts.{if_some_as, if_none_as}
use Rattle.lt_value.proofs.Operands.{taken_again, none_again}
use Rattle.lt_value.proofs.operators.operand.shiftable.Goals as goal

pub returns-clause-some : goal.returns-clause-some
returns-clause-some c =
    if_some_as _ _ (λ p. taken_again (IsValue c.args.model c.args.ty) c.args.n.now c.in_ok-values.values p _ refl c.in_ok-values.ensures.some) c.from_on.result c.from_on.ensures.some

pub returns-clause-none : goal.returns-clause-none
returns-clause-none c =
    if_none_as _ _ (none_again (IsValue c.args.model c.args.ty) c.args.n.now c.in_ok-values.values _ refl c.in_ok-values.ensures.some) c.from_on.result c.from_on.ensures.none
