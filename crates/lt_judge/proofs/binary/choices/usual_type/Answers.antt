use Rattle.lt_env.proofs.Judgements.{stays_on}
use Rattle.lt_judge.proofs.JudgedChoices.{usual_is}
use Rattle.lt_judge.proofs.binary.choices.usual_type.Goals as goal

pub returns-clause-made : goal.returns-clause-made
returns-clause-made c = λ longer more.
    let w = c.num.ensures.widens in
    usual_is _ _ _ _ _ _ _ _ c.model-model.ensures (stays_on w c.in_ok-left.ensures longer more) (stays_on w c.in_ok-right.ensures longer more) c.usual.ensures
    (c.in_ok-ty.ensures.made longer more)
