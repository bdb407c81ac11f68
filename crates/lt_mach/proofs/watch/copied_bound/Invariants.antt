use Rattle.std.proofs.Common.{◌≡◌, take}
use Rattle.lt_mach.proofs.watch.copied_bound.Given as goal

abbrev pub invariant-loop-it : goal.invariant-loop-it
invariant-loop-it l = l.copy.items ≡ take l.it-index l.bound
