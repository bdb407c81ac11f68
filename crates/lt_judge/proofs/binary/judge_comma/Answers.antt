use Rattle.lt_env.proofs.Judgements.{judged}
use Rattle.lt_judge.proofs.binary.judge_comma.Goals as goal

pub returns : goal.returns
returns c = judged c.comma.ensures.widens c.in_ok-judged.ensures.made
