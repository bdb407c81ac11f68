use Rattle.std.proofs.Common.{◌≡◌, ◌∷◌, take}
use Rattle.lt_scope.specs.Binders.{names_in}
use Rattle.lt_scope.proofs.scopes.Scopes.open_with.Given as goal

abbrev pub invariant-loop-binder : goal.invariant-loop-binder
invariant-loop-binder g l = l.self ≡ names_in (take l.binder-index l.binder-items) ∷ l.fn.self
