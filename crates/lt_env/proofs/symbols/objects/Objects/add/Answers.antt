use Rattle.std.proofs.Common.{◌≡◌, ◌∙◌, sym, ap, length, arith}
use Rattle.lt_env.specs.Symbols.{is_first}
use Rattle.lt_env.proofs.LinkedObjects.{not_first, first}
use Rattle.lt_env.proofs.symbols.objects.Objects.add.Goals as goal

pub invariant_of-self-then-not-is_first : goal.invariant_of-self-then-not-is_first
invariant_of-self-then-not-is_first c =
    not_first c.self.inside.linked c.self.inside.list.items _ c.args.object c.self.invariant c.in_ok-push.ensures.items
    (ap (λ list. is_first list c.args.object) c.self.view_is ∙ sym c.is_first-is_first.ensures ∙ c.if-not-is_first.true)

pub invariant_of-self-in-Ok-insert : goal.invariant_of-self-in-Ok-insert
invariant_of-self-in-Ok-insert c =
    let counts : c.in-Ok.number ≡ length c.self.inside.list.items = omega (arith, c.self.inside.list.ok.0, c.in-Ok.ensures.1) in
    first c.self.inside.linked c.insert.new.self c.self.inside.list.items _ c.args.object c.in_ok-key.key.items c.in-Ok.number c.self.invariant c.in_ok-push.ensures.items
    (ap (λ list. is_first list c.args.object) c.self.view_is ∙ sym c.is_first-is_first.ensures ∙ c.if-not-is_first.false)
    (c.in_ok-key.ensures.items ∙ c.as_slice.ensures) counts c.in-Ok-insert.ensures.updates
