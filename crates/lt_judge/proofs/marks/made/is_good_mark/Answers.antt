use Rattle.std.proofs.Common.{refl}
use Rattle.lt_judge.proofs.JudgedMarks.{all_are}
use Rattle.lt_judge.proofs.marks.made.is_good_mark.Goals as goal

pub returns : goal.returns
returns c = λ longer more.
    all_are _ _ _ _ _ _ _ _ _ c.are_all.ensures
    (all_are _ _ _ _ _ _ _ _ _ c.are_all-predicate.ensures refl (c.in_ok-scalar.ensures longer more) c.is_pure-pure.ensures (c.is_good_id-good.ensures longer))
    c.is_tag-tagged.ensures (c.in_ok-bindings.ensures longer more) (c.in_ok-new.ensures longer)
