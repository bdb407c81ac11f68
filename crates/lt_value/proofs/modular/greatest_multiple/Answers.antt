use Rattle.std.proofs.Math.Nat.{pos_of_ne-zero}
use Rattle.lt_value.proofs.Common.{multiple_by_zero, multiple_by_step}
use Rattle.lt_value.proofs.modular.greatest_multiple.Goals as goal

pub returns-then-step-eq0 : goal.returns-then-step-eq0
returns-then-step-eq0 c = multiple_by_zero _ _ c.if-step-eq0.true

pub returns-else-step-eq0 : goal.returns-else-step-eq0
returns-else-step-eq0 c = multiple_by_step _ _ (pos_of_ne-zero c.if-step-eq0.false)
