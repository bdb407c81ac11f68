use Rattle.std.proofs.Common.{false, subst}
use Rattle.lt_tree.specs.Typing.Types.{CType}
use Rattle.lt_code.specs.Code.{assigned, tracking_at}
use Rattle.lt_emit.specs.Emission.{site_in}
use Rattle.lt_emit.proofs.Spent.{then2, fitting}
use Rattle.lt_lower.proofs.object.stored.Goals as goal

pub returns : goal.returns
returns c =
    then2 c.in_ok-stored.ensures c.in_ok-value.ensures c.part_address.ensures
    (λ from here it p q r known.
    let Is : CType → Type 0 = λ t. assigned (tracking_at false (site_in here it)) t 0 1 (it.point c.in_ok-stored.stored) (it.point c.args.to) in
    (p.0, (_, r, (_, q known, subst Is (c.ty.ensures here.types) p.1)))) (λ here. grind fitting)
