use Rattle.lt_tree.specs.Typing.BinaryOperations.{judge_binary}
use Rattle.lt_env.proofs.Judgements.{judged}
use Rattle.lt_judge.proofs.binary.judge_binary.Goals as goal

pub returns : goal.returns
unfolding judge_binary
returns c = judged c.binary.ensures.widens c.in_ok-judged.ensures.made
