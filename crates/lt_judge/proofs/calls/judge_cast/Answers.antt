use Rattle.std.proofs.Common.{refl}
use Rattle.lt_env.specs.Going.{known_of}
use Rattle.lt_env.proofs.Judgements.{judged}
use Rattle.lt_judge.proofs.calls.judge_cast.Goals as goal

pub returns : goal.returns
returns c = judged c.in_ok-cast.ensures.widens (λ longer more. c.in_ok-cast.ensures.made longer more (known_of longer c.args.walker.now) refl)
