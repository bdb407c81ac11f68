use Rattle.std.proofs.Common.{List, ◌≤◌, length, drop}
use Rattle.lt_ir.specs.Starting.{Root, parameter_roots}
use Rattle.lt_ir.specs.Graph.{names_in, shapes_in}
use Rattle.lt_mach.specs.Roots.{AreFound}
use Rattle.lt_mach.proofs.roots.add_parameters.Given as goal

abbrev pub invariant-loop-place : goal.invariant-loop-place
invariant-loop-place l = record {
  within : l.place ≤ length l.params;
  are : (rest : List Root) → AreFound rest l.initial.roots → AreFound (parameter_roots l.scope l.place (names_in (drop l.place l.params)) (shapes_in (drop l.place l.params)) rest) l.roots;
}

abbrev pub decreases-loop-place : goal.decreases-loop-place
decreases-loop-place l = l.place
