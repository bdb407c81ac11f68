use Rattle.std.proofs.Common.{◌≡◌, drop, map}
use Rattle.lt_tree.specs.UnitView.{init_declarator_of}
use Rattle.lt_decl.specs.Walk.{walk_declarators}
use Rattle.lt_decl.proofs.walk.declaration.declarators.Given as goal

abbrev pub invariant-declarators : goal.invariant-declarators
invariant-declarators l = l.walker ≡ walk_declarators (map init_declarator_of (drop l.at l.list)) l.initial.walker
