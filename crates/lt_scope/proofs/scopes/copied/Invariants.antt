use Rattle.std.proofs.Common.{◌≡◌, take}
use Rattle.lt_scope.specs.Binders.{names_in}
use Rattle.lt_scope.proofs.scopes.copied.Given as goal

abbrev pub invariant-loop-binder : goal.invariant-loop-binder
invariant-loop-binder g l = names_in l.copies.items ≡ names_in (take l.binder-index l.binders)
