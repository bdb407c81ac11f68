use Rattle.std.proofs.Common.{refl, ◌∙◌, rules}
use Rattle.lt_mach.proofs.Returning.{returned}
use Rattle.lt_mach.proofs.machine.Machine.leave.Goals as goal

pub returns : goal.returns
returns c =
    returned _ _ _ c.in-Some.caller c.in-Some.ensures.items (search rules) (c.swap.ensures.y_after ∙ c.take-call.ensures) c.saturating_sub-self.ensures refl refl refl refl
