use Rattle.std.proofs.Common.{refl}
use Rattle.lt_env.specs.Going.{known_of}
use Rattle.lt_env.proofs.Judgements.{judged}
use Rattle.lt_judge.proofs.unary.judge_size.Goals as goal

pub returns : goal.returns
returns c = judged c.in_ok-size.ensures.widens (λ longer more. c.in_ok-size.ensures.made longer more (known_of longer c.args.walker.now) refl refl)
