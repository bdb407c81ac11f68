use Rattle.lt_tree.specs.Typing.BinaryOperations.{judge_assign, judge_update}
use Rattle.lt_env.proofs.Judgements.{judged}
use Rattle.lt_judge.proofs.binary.judge_assignment.Goals as goal

pub returns-in_ok-judged-in-None : goal.returns-in_ok-judged-in-None
unfolding judge_assign
returns-in_ok-judged-in-None c = rw c.in-None.is (judged c.assign.ensures.widens c.in_ok-judged-in-None.ensures.made)

pub returns-in_ok-judged-in-Some : goal.returns-in_ok-judged-in-Some
unfolding judge_update
returns-in_ok-judged-in-Some c = rw c.in-Some.is (judged c.update.ensures.widens c.in_ok-judged-in-Some.ensures.made)
