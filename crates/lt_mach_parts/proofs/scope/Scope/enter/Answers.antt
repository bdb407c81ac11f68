use Rattle.std.proofs.Common.{◌∙◌, sym, ap, ◌++◌}
use Rattle.lt_ir.specs.Running.{statics_of}
use Rattle.lt_mach_parts.proofs.Scoped.{entered}
use Rattle.lt_mach_parts.proofs.scope.Scope.enter.Goals as goal

pub returns : goal.returns
returns c =
    ap (λ own. own ++ c.in_ok-self-inside.field-0.value) c.clear.ensures ∙ c.in_ok-self-inside.ensures.cases
    ∙ sym (entered c.caller.inside.own c.caller.inside.statics.value c.caller.invariant.0 c.caller.invariant.1) ∙ ap statics_of c.caller.view_is
