use Rattle.std.proofs.Common.{◌&&◌, ap}
use Rattle.lt_tree.specs.Typing.Types.{is_scalar}
use Rattle.lt_tree.specs.Typing.Rules.{unless, not_scalar}
use Rattle.lt_tree.specs.Typing.Expressions.{own_type}
use Rattle.lt_tree.specs.Typing.BinaryOperations.{judge_logical}
use Rattle.lt_env.specs.Views.{typed_of, typed_in}
use Rattle.lt_env.proofs.Judgements.{judged, stays_on}
use Rattle.lt_judge.proofs.JudgedChoices.{judged_of}
use Rattle.lt_judge.proofs.binary.judge_logical.Goals as goal

pub returns : goal.returns
unfolding judge_logical
returns c = judged c.logical.ensures.widens (λ longer more.
    judged_of (λ x y. unless (is_scalar (own_type x) && is_scalar (own_type y)) not_scalar) (typed_in longer c.args.x) (typed_in longer c.args.y) _ _ _ _ _ _
    (ap (typed_of longer) c.deref.ensures) (ap (typed_of longer) c.deref-2.ensures) (stays_on c.logical.ensures.widens c.in_ok-faults.ensures longer more)
    (c.in_ok-typed.ensures.made longer more) (c.in_ok-judged.ensures longer))
