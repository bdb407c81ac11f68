use Rattle.std.proofs.Common.{◌≤◌, length, drop}
use Rattle.lt_mach_parts.specs.Stubs.{ArePlacesFrom}
use Rattle.lt_mach_parts.proofs.stubs.places_of.Given as goal

abbrev pub invariant-loop-place : goal.invariant-loop-place
invariant-loop-place l = (l.place ≤ length l.sets) × ArePlacesFrom l.place (drop l.place l.sets) l.places

abbrev pub decreases-loop-place : goal.decreases-loop-place
decreases-loop-place l = l.place
