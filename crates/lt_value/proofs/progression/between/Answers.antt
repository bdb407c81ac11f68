use Rattle.std.specs.Int.{w128}
use Rattle.std.proofs.Common.{inl, inr}
use Rattle.std.proofs.lemmas.Int.{to_z-of_z}
use Rattle.lt_value.proofs.Meets.{run_is_between}
use Rattle.lt_value.proofs.progression.between.Goals as goal
use Rattle.lt_value.proofs.progression.between.Goals.{then-room-eq0, else-room-eq0}

pub returns : goal.returns
returns c =
    run_is_between c.run_from.result c.args.lo c.args.hi _ _ _ _ (to_z-of_z w128 _ c.ranges.lo) (to_z-of_z w128 _ c.ranges.hi) c.distance-room.ensures
    (elim c.if-room-eq0.branch [ then-room-eq0 w ↦ inr w.if-room-eq0.true | else-room-eq0 w ↦ inl w.step-is ])
    c.run_from.ensures
