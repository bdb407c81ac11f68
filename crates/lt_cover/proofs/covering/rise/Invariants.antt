use Rattle.std.proofs.Common.{map, take}
use Rattle.lt_cover.specs.Coverage.Table.{NamesRise}
use Rattle.lt_cover.proofs.covering.rise.Given as goal

abbrev pub invariant-loop-i : goal.invariant-loop-i
invariant-loop-i l = NamesRise (take l.i (map (λ n. n.now) l.names))
