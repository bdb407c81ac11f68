use Rattle.std.proofs.Common.{map, take}
use Rattle.std.specs.Prelude.{All}
use Rattle.lt_cover.specs.Coverage.Names.{IsTestName}
use Rattle.lt_cover.proofs.covering.are_names.Given as goal

abbrev pub invariant-loop-name : goal.invariant-loop-name
invariant-loop-name l = All IsTestName (map (λ n. n.now) (take l.name-index l.names))
