use Rattle.lt_emit.proofs.Spent.{then2, fitting}
use Rattle.lt_emit.proofs.builder.Builder.changed.Goals as goal

pub returns : goal.returns
returns c =
    then2 c.in_ok-stored.ensures c.in_ok-modified.ensures c.aimed.ensures
    (λ from here it stored modified aimed. (stored.0, (_, aimed, (_, modified, stored.1)))) (λ here. grind fitting)
