use Rattle.std.proofs.Common.{refl, ap, ◌∙◌}
use Rattle.lt_tree.specs.Typing.Operations.{judge_name}
use Rattle.lt_env.specs.Going.{known_of}
use Rattle.lt_env.specs.Views.{use_of}
use Rattle.lt_env.proofs.Judgements.{judged}
use Rattle.lt_judge.proofs.names.judge_name.Goals as goal

pub returns : goal.returns
returns c = judged c.in_ok-named.ensures.widens (λ longer more.
    c.in_ok-named.ensures.made longer more (known_of longer c.args.walker.now) refl refl
    ∙ ap (λ meaning. judge_name (use_of c.args.role) c.args.name.now meaning (known_of longer c.args.walker.now)) (c.find-meaning.ensures longer))
