use Rattle.std.proofs.Common.{sym, ap, ◌∙◌, cond, eqb, get_or, Some, None, arith}
use Rattle.lt_tree.specs.Typing.Entities.{or_else}
use Rattle.lt_facts.proofs.FirstPlaces.{place_more}
use Rattle.lt_facts.proofs.indices.first_places.Goals as goal

pub loop-place-preserved : goal.loop-place-preserved
loop-place-preserved c = λ n.
    let numbers = c.args.numbers.now in
    let k = c.loop-place.place in
    c.in_ok-put_first.ensures n
    ∙ ap (λ o. or_else o (cond (eqb (get_or numbers k 0) n) (Some k) None)) (c.loop-place.invariant n)
    ∙ sym (place_more n numbers k (omega arith))
