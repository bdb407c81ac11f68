use Rattle.std.proofs.Common.{reverse, take, List, ◌∷◌, ◌≤◌, length}
use Rattle.lt_scope.specs.declared.scopes.Binder.{Binder}
use Rattle.lt_scope.specs.Binders.{Agree}
use Rattle.lt_scope.proofs.scopes.forget_all.Given as goal

abbrev pub invariant-binders : goal.invariant-binders
invariant-binders g l = record {
  left : l.left ≤ length l.binders;
  forgotten : (outer : List (List (Binder g.row.T.Denot))) → Agree (reverse l.binders ∷ outer) l.initial.newest → Agree (reverse (take l.left l.binders) ∷ outer) l.newest;
}

abbrev pub decreases-binders : goal.decreases-binders
decreases-binders g l = l.left
