use Rattle.lt_value.proofs.Joins.{IsJoined, joined_as_code, ends_as_code, joined_by_code, join_holds_left, join_holds_right, join_is_least}
use Rattle.lt_value.proofs.lattice.join.Goals as goal

pub progression-requires : goal.progression-requires
progression-requires c =
    ends_as_code _ _ _ _ _ _ (joined_as_code c.args.a.now c.args.b.now _ _ _ _ _ c.min-lo.ensures.value c.max-hi.ensures.value c.abs_diff-apart.ensures c.gcd.ensures c.gcd-2.ensures)

joined : (c : goal.After-progression) → IsJoined c.args.a.now c.args.b.now c.abs_diff-apart.result c.progression.result.lo c.progression.result.hi c.progression.result.step
joined c =
    joined_by_code _ _ c.progression.result _ _ _ _ (joined_as_code c.args.a.now c.args.b.now _ _ _ _ _ c.min-lo.ensures.value c.max-hi.ensures.value c.abs_diff-apart.ensures c.gcd.ensures c.gcd-2.ensures) c.progression.ensures.lo c.progression.ensures.hi c.progression.ensures.step

pub returns-clause-left : goal.returns-clause-left
returns-clause-left c = join_holds_left _ _ c.progression.result _ (joined c)

pub returns-clause-right : goal.returns-clause-right
returns-clause-right c = join_holds_right _ _ c.progression.result _ (joined c)

pub returns-clause-least : goal.returns-clause-least
returns-clause-least c = join_is_least _ _ c.progression.result _ (joined c)
