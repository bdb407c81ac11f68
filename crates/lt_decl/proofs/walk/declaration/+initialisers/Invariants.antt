use Rattle.std.proofs.Common.{◌≡◌, drop}
use Rattle.lt_tree.specs.UnitView.{initialisers_in}
use Rattle.lt_decl.specs.Walk.{walk_initialisers}
use Rattle.lt_decl.proofs.walk.declaration.+initialisers.Given as goal

abbrev pub invariant-initialisers-parts : goal.invariant-initialisers-parts
invariant-initialisers-parts l = l.walker ≡ walk_initialisers (initialisers_in (drop l.at l.list)) l.initial.walker
