use Rattle.std.proofs.Common.{ℤ, ◌↔◌}
use Rattle.lt_model.proofs.Ranges.{bounds_of}
use Rattle.lt_value.specs.Num.{Holds}
use Rattle.lt_value.specs.Forward.{IsCount}
use Rattle.lt_value.proofs.Cuts.{if_some_as, if_none_as}
use Rattle.lt_value.proofs.Operands.{taken_by_meet, none_by_meet, counts_are, count_code}
use Rattle.lt_value.proofs.operators.operand.counts.Goals as goal

counted : (c : goal.After-meet) → (z : ℤ) → Holds c.between.result z ↔ IsCount c.args.model c.args.ty z
counted c = counts_are c.args.model c.args.ty c.between.result _ (count_code c.width.result _ c.from.result c.from.ensures c.width.ensures (bounds_of c.args.model c.args.ty).width) c.between.ensures

pub returns-clause-some : goal.returns-clause-some
returns-clause-some c = if_some_as _ _ (λ p. taken_by_meet (IsCount c.args.model c.args.ty) c.args.n.now c.between.result p (counted c)) c.meet.result c.meet.ensures.some

pub returns-clause-none : goal.returns-clause-none
returns-clause-none c = if_none_as _ _ (none_by_meet (IsCount c.args.model c.args.ty) c.args.n.now c.between.result (counted c)) c.meet.result c.meet.ensures.none
