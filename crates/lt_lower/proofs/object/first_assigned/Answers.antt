use Rattle.std.proofs.Common.{false}
use Rattle.lt_tree.specs.Typing.Types.{is_struct}
use Rattle.lt_tree.specs.Typing.TypeRows.{type_in}
use Rattle.lt_code.specs.Code.{up_to, assigned, tracking_at}
use Rattle.lt_emit.specs.Emission.{site_in, costs}
use Rattle.lt_emit.specs.Accesses.{AccessStands}
use Rattle.lt_emit.proofs.Spent.{put_first, fitting}
use Rattle.lt_emit.proofs.Footprints.{inside_within}
use Rattle.lt_lower.proofs.Objects.{same_access}
use Rattle.lt_lower.proofs.object.first_assigned.Goals as goal

pub returns : goal.returns
returns c =
    let to = c.in_ok-access.access in
    put_first c.in_ok-access.ensures.adds c.in_ok-access.ensures.spends
    (inside_within {q = costs 1 2} {R = AccessStands (λ s t. up_to s 1 (assigned (tracking_at false s) t 0 1)) c.args.ty to c.args.to} false
    c.assigned-code.ensures (λ from here it p is.
    let t = type_in here.types c.args.ty in p (same_access (site_in here it) false (is_struct t) t to is)) (λ here. grind fitting))
    (λ from here it p q. q p)
