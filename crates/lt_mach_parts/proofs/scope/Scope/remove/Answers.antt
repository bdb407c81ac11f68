use Rattle.std.proofs.Common.{◌∙◌, ap, sym, ◌++◌}
use Rattle.lt_ir.specs.Running.{without}
use Rattle.lt_ir.specs.Graph.{are_static}
use Rattle.lt_mach_parts.specs.Bindings.{are_own}
use Rattle.lt_mach_parts.proofs.Scoped.{static_left, own_left, kept_own, from_own}
use Rattle.lt_mach_parts.proofs.scope.Scope.remove.Goals as goal

pub invariant_of-self : goal.invariant_of-self
invariant_of-self c =
    (c.self.invariant.0, ap are_static (c.in_ok-self-inside.ensures.ok ∙ c.remove.ensures ∙ ap (λ scope. without scope c.args.v) (c.in_ok-statics.ensures ∙ c.deref.ensures)) ∙ static_left c.args.v c.self.inside.statics.value c.self.invariant.1)

pub invariant_of-self-else-is_static : goal.invariant_of-self-else-is_static
invariant_of-self-else-is_static c =
    (ap are_own c.remove-else-is_static.ensures ∙ own_left c.args.v c.self.inside.own c.self.invariant.0, c.self.invariant.1)

pub returns-in_ok-self-inside : goal.returns-in_ok-self-inside
returns-in_ok-self-inside c =
    ap (λ scope. c.self.inside.own ++ scope) (c.in_ok-self-inside.ensures.ok ∙ c.remove.ensures ∙ ap (λ scope. without scope c.args.v) (c.in_ok-statics.ensures ∙ c.deref.ensures))
    ∙ sym (kept_own c.args.v c.self.inside.own c.self.inside.statics.value c.self.invariant.0 (sym c.is_static.ensures ∙ c.if-is_static.true)) ∙ ap (λ scope. without scope c.args.v) c.self.view_is

pub returns-else-is_static : goal.returns-else-is_static
returns-else-is_static c =
    ap (λ scope. scope ++ c.self.inside.statics.value) c.remove-else-is_static.ensures
    ∙ sym (from_own c.args.v c.self.inside.own c.self.inside.statics.value c.self.invariant.1 (sym c.is_static.ensures ∙ c.if-is_static.false)) ∙ ap (λ scope. without scope c.args.v) c.self.view_is
