use Rattle.std.proofs.Common.{take}
use Rattle.std.specs.Prelude.{All, Contains}
use Rattle.lt_cover.specs.Coverage.Table.{names_of}
use Rattle.lt_cover.proofs.draft.are_tests.Given as goal

abbrev pub invariant-loop-name : goal.invariant-loop-name
invariant-loop-name l = All (λ name. Contains (names_of l.tests) name) (take l.name-index l.names)
