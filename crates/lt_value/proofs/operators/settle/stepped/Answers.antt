use Rattle.std.proofs.Common.{◌≡◌, ◌<◌, ◌⊎◌, inl, inr}
use Rattle.std.specs.Int.{w128}
use Rattle.std.proofs.lemmas.Int.{to_z-of_z}
use Rattle.lt_value.proofs.Settling.{stepped_is}
use Rattle.lt_value.proofs.operators.settle.stepped.Goals as goal
use Rattle.lt_value.proofs.operators.settle.stepped.Goals.{then-step-room, else-step-room}

pub returns : goal.returns
returns c =
    let far : ((c.if-step-room.reach ≡ 0) × (c.distance-room.result < c.args.step)) ⊎ (c.if-step-room.reach ≡ c.args.step) = elim c.if-step-room.branch [
      | then-step-room w ↦ inl (w.reach-is, w.if-step-room.true)
      | else-step-room w ↦ inr w.reach-is
    ] in
    stepped_is c.run_from.result c.args.lo c.args.hi _ _ c.args.step _ _ (to_z-of_z w128 _ c.ranges.lo) (to_z-of_z w128 _ c.ranges.hi) c.distance-room.ensures far c.run_from.ensures
