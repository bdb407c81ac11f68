use Rattle.std.proofs.Common.{sym, ◌∙◌}
use Rattle.std.specs.Int.{w128}
use Rattle.std.proofs.lemmas.Int.{to_z-of_z}
use Rattle.lt_value.proofs.Orders.{le_true, le_false}
use Rattle.lt_value.proofs.Members.{lo_fits, hi_fits}
use Rattle.lt_value.proofs.Below.{below_by_test, not_below_by_hi, not_below_by_lo}
use Rattle.lt_value.proofs.order.is_below.Goals as goal
use Rattle.lt_value.proofs.order.is_below.Goals.{then-is_member, else-is_member}

pub returns-then-a-b : goal.returns-then-a-b
returns-then-a-b c =
    let a = c.args.a.now in
    let b = c.args.b.now in
    elim c.if-is_member.branch [
      | then-is_member w ↦
          below_by_test a b _ _ _ c.divides.result (to_z-of_z w128 _ (lo_fits a)) (to_z-of_z w128 _ (hi_fits a)) (to_z-of_z w128 _ (hi_fits b))
          (c.is_member.ensures.0 w.if-is_member.true) (le_true _ _ (sym w.value-is ∙ c.if-a-b.true)) c.divides.ensures.0 c.divides.ensures.1
      | else-is_member w ↦ cc
    ]

pub returns-else-a-b : goal.returns-else-a-b
returns-else-a-b c =
    let a = c.args.a.now in
    let b = c.args.b.now in
    elim c.if-is_member.branch [
      | then-is_member w ↦ not_below_by_hi a b _ _ _ (to_z-of_z w128 _ (hi_fits a)) (to_z-of_z w128 _ (hi_fits b)) c.if-a-b.false (le_false _ _ (sym w.value-is ∙ c.if-a-b.false))
      | else-is_member w ↦ not_below_by_lo a b _ _ _ (to_z-of_z w128 _ (lo_fits a)) c.if-a-b.false w.if-is_member.false c.is_member.ensures.1
    ]
