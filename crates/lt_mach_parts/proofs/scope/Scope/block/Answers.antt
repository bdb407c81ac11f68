use Rattle.std.proofs.Common.{◌∙◌, sym, ap}
use Rattle.lt_ir.specs.Running.{block_among}
use Rattle.lt_mach_parts.proofs.Scoped.{past_own, in_own}
use Rattle.lt_mach_parts.proofs.scope.Scope.block.Goals as goal

pub returns-then-is_static : goal.returns-then-is_static
returns-then-is_static c =
    c.block.ensures ∙ ap (λ scope. block_among scope c.args.v) c.deref.ensures ∙ sym (past_own c.args.v c.self.inside.own c.self.inside.statics.value c.self.invariant.0 (sym c.is_static.ensures ∙ c.if-is_static.true))
    ∙ ap (λ scope. block_among scope c.args.v) c.self.view_is

pub returns-else-is_static : goal.returns-else-is_static
returns-else-is_static c =
    c.block-else-is_static.ensures ∙ sym (in_own c.args.v c.self.inside.own c.self.inside.statics.value c.self.invariant.1 (sym c.is_static.ensures ∙ c.if-is_static.false))
    ∙ ap (λ scope. block_among scope c.args.v) c.self.view_is
