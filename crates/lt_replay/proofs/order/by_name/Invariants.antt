use Rattle.std.proofs.Common.{take}
use Rattle.lt_replay.specs.Order.{AreNamed}
use Rattle.lt_replay.proofs.order.by_name.Given as goal

abbrev pub invariant-loop-test : goal.invariant-loop-test
invariant-loop-test l = AreNamed (take l.test-index l.tests) l.named
