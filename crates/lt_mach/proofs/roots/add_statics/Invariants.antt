use Rattle.std.proofs.Common.{◌≤◌, length, drop}
use Rattle.lt_ir.specs.Starting.{static_roots}
use Rattle.lt_mach.specs.Roots.{AreFound}
use Rattle.lt_mach.proofs.roots.add_statics.Given as goal

abbrev pub invariant-loop-place : goal.invariant-loop-place
invariant-loop-place l = record {
  within : l.place ≤ length l.statics;
  are : AreFound (static_roots l.place (drop l.place l.statics)) l.roots;
}

abbrev pub decreases-loop-place : goal.decreases-loop-place
decreases-loop-place l = l.place
