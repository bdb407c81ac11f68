use Rattle.std.proofs.Common.{◌≡◌, map, take}
use Rattle.lt_merge.specs.Keys.{key_of}
use Rattle.lt_merge.proofs.agree.first_mixed.Given as goal

abbrev pub invariant-loop-i : goal.invariant-loop-i
invariant-loop-i l = take l.i (map key_of l.b) ≡ take l.i (map key_of l.a)
