use Rattle.std.proofs.Common.{refl}
use Rattle.lt_env.specs.Going.{known_of}
use Rattle.lt_env.proofs.Judgements.{judged}
use Rattle.lt_judge.proofs.parts.judge_arrow.Goals as goal

pub returns : goal.returns
returns c = judged c.in_ok-arrow.ensures.widens (λ longer more. c.in_ok-arrow.ensures.made longer more (known_of longer c.args.walker.now) refl refl)
