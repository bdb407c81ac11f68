use Rattle.std.proofs.Common.{◌∙◌, ap, refl}
use Rattle.lt_scope.specs.Binders.{names_in}
use Rattle.lt_scope.proofs.Innermost.{one_copied, names_all}
use Rattle.lt_scope.proofs.scopes.copied.Goals as goal

pub loop-binder-init : goal.loop-binder-init
loop-binder-init g c = ap names_in c.new-copies.ensures.items

pub loop-binder-preserved : goal.loop-binder-preserved
loop-binder-preserved g c =
    one_copied c.args.binders.now c.loop-binder.binder-index c.binder-item.result _ c.loop-binder.copies.items c.push.new.self.items c.loop-binder-test.true c.binder-item.is c.in_ok-push.ensures.items
    (c.in_ok-name.ensures ∙ c.as_slice.ensures) refl c.loop-binder.invariant

pub returns : goal.returns
returns g c = c.loop-binder.invariant ∙ names_all c.args.binders.now c.loop-binder.binder-index c.loop-binder-test.false
