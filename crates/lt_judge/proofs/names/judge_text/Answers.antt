use Rattle.lt_tree.specs.Typing.NodeEnds.{text_at}
use Rattle.lt_env.proofs.Judgements.{judged}
use Rattle.lt_judge.proofs.names.judge_text.Goals as goal

pub returns : goal.returns
unfolding text_at
returns c = judged c.in_ok-ty.ensures.widens (λ longer more.
    rw (c.in_ok-judgement.ensures longer, c.in_ok-typed.ensures longer, c.in_ok-place.ensures longer, c.in_ok-ty.ensures.made longer more, c.new.ensures))
