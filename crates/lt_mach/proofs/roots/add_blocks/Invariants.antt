use Rattle.std.proofs.Common.{List, ◌≤◌, ◌+◌, ◌++◌, length, drop}
use Rattle.lt_ir.specs.Starting.{Root}
use Rattle.lt_mach.specs.Blocks.{roots_from}
use Rattle.lt_mach.specs.Roots.{AreFound}
use Rattle.lt_mach.proofs.roots.add_blocks.Given as goal

abbrev pub invariant-loop-place : goal.invariant-loop-place
invariant-loop-place l = record {
  within : l.place ≤ length l.blocks;
  are : (rest : List Root) → AreFound rest l.initial.roots → AreFound (roots_from (l.first + l.place) (drop l.place l.blocks) ++ rest) l.roots;
}

abbrev pub decreases-loop-place : goal.decreases-loop-place
decreases-loop-place l = l.place
