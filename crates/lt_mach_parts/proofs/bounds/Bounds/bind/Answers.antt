use Rattle.std.proofs.Common.{◌∙◌, ap, sym, subst, ◌∷◌}
use Rattle.lt_mach_parts.specs.Stacks.{AreOf}
use Rattle.lt_mach_parts.specs.Bindings.{scope_of}
use Rattle.lt_mach_parts.proofs.Scoped.{pushed_on, scope_behind, one_bound}
use Rattle.lt_mach_parts.proofs.bounds.Bounds.bind.Goals as goal

pub invariant_of-self-else-is_err : goal.invariant_of-self-else-is_err
invariant_of-self-else-is_err c =
    subst (λ items. AreOf c.push.new.self (scope_of items)) (sym (pushed_on c.push-2.result c.is_err.result c.self.inside.list.items c.push-2.new.self.items _ c.push-2.ensures.items c.is_err.ensures.value c.if-is_err.false))
    (subst (AreOf c.push.new.self) (sym (scope_behind c.self.inside.list.items (record { variable = c.args.variable; block = c.args.block })))
    (one_bound c.self.inside.stacks c.push.new.self (scope_of c.self.inside.list.items) c.args.variable c.args.block c.self.invariant c.in_ok-push.ensures.done))

pub returns-clause-done : goal.returns-clause-done
returns-clause-done c =
    ap scope_of (pushed_on c.push-2.result c.is_err.result c.self.inside.list.items c.push-2.new.self.items _ c.push-2.ensures.items c.is_err.ensures.value c.if-is_err.false)
    ∙ scope_behind c.self.inside.list.items (record { variable = c.args.variable; block = c.args.block }) ∙ ap (λ scope. record { variable = c.args.variable; block = c.args.block } ∷ scope) c.self.view_is
