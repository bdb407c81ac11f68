use Rattle.std.proofs.Common.{rules, ℤ, SFits, subst, ◌∙◌}
use Rattle.std.specs.Int.{w128}
use Rattle.std.proofs.lemmas.Int.{to_z-of_z}
use Rattle.lt_model.specs.declared.cell.Content.TheVariants as content
use Rattle.lt_code.specs.Code.{constant}
use Rattle.lt_emit.specs.Emission.{site_in}
use Rattle.lt_emit.proofs.Spent.{then2, fitting}
use Rattle.lt_lower.proofs.object.letter.Goals as goal

pub returns : goal.returns
returns c =
    let fits : SFits w128 c.from.result = search rules in
    then2 c.in_ok-stored.ensures.code c.in_ok-constant.ensures c.part_address.ensures
    (λ from here it p q r.
    let Is : ℤ → Type 0 = λ z. constant (site_in here it) 1 (content.Number z) (it.point c.in_ok-constant.constant) (it.point c.in_ok-stored.stored) in
    (q.0, (_, r, (_, subst Is (to_z-of_z w128 c.from.result fits ∙ c.from.ensures) q.1, p.0)))) (λ here. grind fitting)
