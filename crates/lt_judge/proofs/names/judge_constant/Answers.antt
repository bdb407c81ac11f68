use Rattle.lt_env.proofs.Judgements.{judged}
use Rattle.lt_judge.proofs.names.judge_constant.Goals as goal

pub returns : goal.returns
returns c = judged c.in_ok-written.ensures.widens c.in_ok-written.ensures.made
