use Rattle.lt_emit.proofs.Spent.{then1, fitting}
use Rattle.lt_emit.proofs.builder.Builder.both_marks.Goals as goal

pub returns : goal.returns
returns c =
    then1 c.in_ok-second.ensures c.fixed_mark-2.ensures
    (λ from here it p q known_true known_false. (_, q known_true, p known_false)) (λ here. grind fitting)
