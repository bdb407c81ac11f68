use Rattle.std.proofs.Common.{◌++◌, ◌∷◌, [], ap, ◌∙◌}
use Rattle.std.proofs.lemmas.List.{append_assoc}
use Rattle.lt_unit.proofs.items.append.Goals as goal

pub loop-item-preserved : goal.loop-item-preserved
loop-item-preserved c =
    c.in_ok-push.ensures.items ∙ ap (λ l. l ++ c.in-Some.item ∷ []) c.loop-item.invariant ∙ append_assoc c.args.all.now.items c.loop-item.yielded (c.in-Some.item ∷ [])
