use Rattle.std.proofs.Common.{not, refl, ap}
use Rattle.lt_judge.proofs.JudgedMarks.{all_are}
use Rattle.lt_judge.proofs.marks.asked.is_good_after.Goals as goal

pub returns : goal.returns
returns c = λ types. all_are _ _ _ _ _ _ _ _ _ c.are_all.ensures (ap not (c.is_lvalue_in_use-lvalue.ensures types)) refl (c.is_good_id-good.ensures types) c.is_tag-tagged.ensures
