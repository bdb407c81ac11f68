use Rattle.lt_answers.specs.Replays.{mixed_label, mixed_hyper, mixed_test}
use Rattle.ltest.proofs.merges.merged.Goals as goal

pub returns-in-Err-Label : goal.returns-in-Err-Label
returns-in-Err-Label c = rw c.in-Some.is (mixed_label (rw c.in-Err-Label.field-0-is at c.in-Err-Label.ensures))

pub returns-in-Err-Hyper : goal.returns-in-Err-Hyper
returns-in-Err-Hyper c = let h = rw c.in-Err-Hyper.field-0-is at c.in-Err-Hyper.ensures in rw c.in-Some.is (mixed_hyper h.0 h.1)

pub returns-in-Err-Test : goal.returns-in-Err-Test
returns-in-Err-Test c = let h = rw c.in-Err-Test.field-0-is at c.in-Err-Test.ensures in rw c.in-Some.is (mixed_test h.0 h.1 h.2)
