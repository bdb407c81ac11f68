use Rattle.std.proofs.Common.{take}
use Rattle.lt_tree.specs.Typing.ProgramView.{program_of}
use Rattle.lt_replay.proofs.Suites.{IsDraftOf, tests_in}
use Rattle.lt_replay.proofs.replaying.replay.Given as goal

abbrev pub invariant-loop-test : goal.invariant-loop-test
invariant-loop-test l = IsDraftOf (program_of l.program) l.spec l.steps (tests_in (take l.test-index l.test-items)) l.draft
