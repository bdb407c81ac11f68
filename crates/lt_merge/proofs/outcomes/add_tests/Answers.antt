use Rattle.lt_cover.proofs.Loops.{more_pushed, all_pushed}
use Rattle.lt_merge.proofs.outcomes.add_tests.Goals as goal

pub loop-test-preserved : goal.loop-test-preserved
loop-test-preserved c = more_pushed _ _ _ _ _ _ c.loop-test-test.true c.test-item.is c.loop-test.invariant c.in_ok-add_test.ensures

pub returns : goal.returns
returns c = all_pushed _ _ _ _ c.loop-test-test.false c.loop-test.invariant
