use Rattle.std.proofs.Common.{ap, ◌∙◌}
use Rattle.std.specs.Prelude.{not, ◌&&◌}
use Rattle.lt_tree.specs.Typing.Rules.{unless, bad_mark}
use Rattle.lt_tree.specs.Typing.Expressions.{as_it_is_read}
use Rattle.lt_tree.specs.Typing.MarkRules.{is_lvalue_in_use, is_good_id, is_tag, after_of, judge_after}
use Rattle.lt_env.specs.Going.{known_of}
use Rattle.lt_env.specs.Views.{use_of, typed_of, typed_in}
use Rattle.lt_env.proofs.Judgements.{judged}
use Rattle.lt_judge.proofs.JudgedChoices.{judged_is}
use Rattle.lt_judge.proofs.marks.judge_after.Goals as goal

pub returns : goal.returns
unfolding judge_after
returns c = judged c.read_before.ensures.widens (λ longer more.
    let known = known_of longer c.args.walker.now in
    judged_is _ _ _ _ _
    (c.in_ok-faults.ensures
    ∙ ap (λ b. unless b bad_mark) (c.is_good_after-good.ensures longer
    ∙ ap (λ x. not (is_lvalue_in_use (use_of c.args.role) (typed_of longer x)) && not known.is_unmarked && is_good_id known c.args.id.now && is_tag c.args.tag.now) c.deref.ensures))
    (c.in_ok-typed.ensures.made longer more ∙ ap (after_of (as_it_is_read (typed_in longer c.args.x))) c.number_of_id.ensures)
    (c.in_ok-judged.ensures longer))
