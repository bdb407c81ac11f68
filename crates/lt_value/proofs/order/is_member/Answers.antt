use Rattle.std.proofs.Common.{sym, ◌∙◌}
use Rattle.std.specs.Int.{w128}
use Rattle.std.proofs.lemmas.Int.{to_z-of_z}
use Rattle.lt_value.proofs.Orders.{le_true}
use Rattle.lt_value.proofs.Members.{step_fits, lo_fits, hi_fits}
use Rattle.lt_value.proofs.Below.{member_by_rest}
use Rattle.lt_value.proofs.order.is_member.Goals as goal
use Rattle.lt_value.proofs.order.is_member.Goals.{then-n-z, else-n-z}

pub rest_by-requires : goal.rest_by-requires
rest_by-requires c = step_fits c.args.n.now

pub returns-else-n-eq0 : goal.returns-else-n-eq0
returns-else-n-eq0 c =
    let n = c.args.n.now in
    elim c.if-n-z.branch [
      | then-n-z w ↦
          member_by_rest n c.args.z _ _ _ _ (to_z-of_z w128 _ c.ranges.z) (to_z-of_z w128 _ (lo_fits n)) (to_z-of_z w128 _ (hi_fits n))
          c.rest_by.ensures.leaves c.if-n-eq0.false (le_true _ _ w.if-n-z.true) (le_true _ _ (sym w.value-is ∙ c.if-z-n.true))
      | else-n-z w ↦ cc
    ]
