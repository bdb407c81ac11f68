use Rattle.lt_tree.specs.Typing.MarkRules.{judge_marked}
use Rattle.lt_env.proofs.Judgements.{judged}
use Rattle.lt_judge.proofs.JudgedChoices.{judged_is}
use Rattle.lt_judge.proofs.marks.judge_marked.Goals as goal

pub returns : goal.returns
unfolding judge_marked
returns c = judged c.marked.ensures.widens (λ longer more. judged_is _ _ _ _ _ c.new.ensures (c.in_ok-typed.ensures.made longer more) (c.in_ok-judged.ensures longer))
