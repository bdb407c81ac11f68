use Rattle.std.proofs.Common.{◌≡◌, ◌≤◌, take, length}
use Rattle.lt_mach_parts.specs.Bindings.{last_of}
use Rattle.lt_mach_parts.proofs.bounds.last_of.Given as goal

abbrev pub invariant-loop-place : goal.invariant-loop-place
invariant-loop-place l = (l.place ≤ length l.list) × (last_of l.list l.v ≡ last_of (take l.place l.list) l.v)

abbrev pub decreases-loop-place : goal.decreases-loop-place
decreases-loop-place l = l.place
