use Rattle.std.proofs.Common.{ap, ◌∙◌, ◌∷◌, drop}
use Rattle.lt_scope.specs.Binders.{names_in}
use Rattle.lt_scope.proofs.Innermost.{one_more, names_all}
use Rattle.lt_scope.proofs.scopes.Scopes.open_with.Goals as goal

pub loop-binder-init : goal.loop-binder-init
loop-binder-init g c = c.in_ok-open.ensures.opened

pub returns-in-Err-clause-same : goal.returns-in-Err-clause-same
returns-in-Err-clause-same g c = c.close-undone.ensures.outer ∙ ap (drop 1) (c.in-Err.ensures.same ∙ c.loop-binder.invariant)

pub loop-binder-preserved : goal.loop-binder-preserved
loop-binder-preserved g c =
    one_more c.deref-binder-items.result.now c.loop-binder.binder-index c.binder-item.result c.as_slice.result.now c.loop-binder.self c.bind.new.self c.args.self.now c.loop-binder-test.true c.binder-item.is c.as_slice.ensures
    c.loop-binder.invariant c.in-Ok.ensures.bound

pub returns-clause-opened : goal.returns-clause-opened
returns-clause-opened g c =
    c.loop-binder.invariant ∙ ap (λ names. names ∷ c.args.self.now) (names_all c.deref-binder-items.result.now c.loop-binder.binder-index c.loop-binder-test.false ∙ ap names_in c.deref-binder-items.ensures.value ∙ c.frame.view_is)
