use Rattle.std.proofs.Common.{◌≡◌, take}
use Rattle.lt_mach_parts.specs.Bindings.{scope_of}
use Rattle.lt_mach_parts.proofs.bounds.Bounds.copy.Given as goal

abbrev pub invariant-loop-it : goal.invariant-loop-it
invariant-loop-it l = l.copy ≡ scope_of (take l.it-index l.it-items)
