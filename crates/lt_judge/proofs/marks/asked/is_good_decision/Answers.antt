use Rattle.std.proofs.Common.{refl, ap, ◌∙◌}
use Rattle.std.specs.Prelude.{not, ◌==◌}
use Rattle.lt_tree.specs.Typing.MarkRules.{number_of_id}
use Rattle.lt_judge.proofs.JudgedMarks.{all_are}
use Rattle.lt_judge.proofs.marks.asked.is_good_decision.Goals as goal

pub returns : goal.returns
returns c = λ longer more.
    all_are _ _ _ _ _ _ _ _ _ c.are_all.ensures
    (all_are _ _ _ _ _ _ _ _ _ c.are_all-here.ensures c.is_truth-truth.ensures refl (c.in_ok-scalar.ensures longer more) (c.is_good_id-first.ensures longer))
    (c.is_good_id-second.ensures longer)
    (ap (λ n. not (n == c.number_of_id-2.result)) c.number_of_id.ensures ∙ ap (λ n. not (number_of_id c.args.when_true.now == n)) c.number_of_id-2.ensures)
    c.is_tag-tagged.ensures
