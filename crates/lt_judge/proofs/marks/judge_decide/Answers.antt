use Rattle.std.proofs.Common.{ap, ◌∙◌}
use Rattle.lt_model.specs.declared.scalar.Scalar.TheVariants as S
use Rattle.lt_tree.specs.Typing.Types.{Num}
use Rattle.lt_tree.specs.Typing.Constants.{varying}
use Rattle.lt_tree.specs.Typing.Rules.{unless, bad_mark}
use Rattle.lt_tree.specs.Typing.TypedTree.{Decide}
use Rattle.lt_tree.specs.Typing.Expressions.{valued, value_in}
use Rattle.lt_tree.specs.Typing.MarkRules.{is_good_decision, number_of_id, judge_decide}
use Rattle.lt_env.specs.Going.{known_of}
use Rattle.lt_env.specs.Views.{use_of, typed_of, typed_in}
use Rattle.lt_env.proofs.Judgements.{judged, stays_on}
use Rattle.lt_judge.proofs.JudgedChoices.{judged_is}
use Rattle.lt_judge.proofs.marks.judge_decide.Goals as goal

pub returns : goal.returns
unfolding judge_decide
returns c = judged c.decided.ensures.widens (λ longer more.
    let x = typed_in longer c.args.x in
    judged_is _ _ _ _ _
    (c.in_ok-faults.ensures
    ∙ ap (λ b. unless b bad_mark) (stays_on c.decided.ensures.widens c.in_ok-good.ensures longer more
    ∙ ap (λ x. is_good_decision (use_of c.args.role) (known_of longer c.args.walker.now) (typed_of longer x) c.args.when_true.now c.args.when_false.now c.args.tag.now) c.deref.ensures))
    (c.in_ok-typed.ensures.made longer more
    ∙ ap (λ n. valued (Decide (Num S.Int) (value_in x) n c.number_of_id-second.result) varying x.erased) c.number_of_id-first.ensures
    ∙ ap (λ n. valued (Decide (Num S.Int) (value_in x) (number_of_id c.args.when_true.now) n) varying x.erased) c.number_of_id-second.ensures)
    (c.in_ok-judged.ensures longer))
