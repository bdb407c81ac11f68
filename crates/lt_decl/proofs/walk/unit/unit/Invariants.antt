use Rattle.std.proofs.Common.{◌≡◌, drop, map}
use Rattle.lt_tree.specs.UnitView.{external_of}
use Rattle.lt_decl.specs.Walk.{walk_unit}
use Rattle.lt_decl.proofs.walk.unit.unit.Given as goal

abbrev pub invariant-externals : goal.invariant-externals
invariant-externals l = l.walker ≡ walk_unit (map external_of (drop l.at l.list)) l.initial.walker
