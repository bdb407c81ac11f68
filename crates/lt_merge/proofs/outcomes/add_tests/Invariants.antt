use Rattle.std.proofs.Common.{◌≡◌, ◌++◌, take}
use Rattle.lt_merge.proofs.outcomes.add_tests.Given as goal

abbrev pub invariant-loop-test : goal.invariant-loop-test
invariant-loop-test l = l.tests.items ≡ l.fn.tests.items ++ take l.test-index l.more
