use Rattle.std.proofs.Common.{◌≡◌, ◌++◌, map, take, drop}
use Rattle.lt_emit.specs.Turning.{turned_arm}
use Rattle.lt_emit.specs.Turned.{point_of}
use Rattle.lt_emit.proofs.turning.turned_arms.Given as goal

abbrev pub invariant-arms : goal.invariant-arms
invariant-arms l = l.arm-items ≡ map (turned_arm (point_of l.last)) (take l.arm-index l.fn.arms) ++ drop l.arm-index l.fn.arms
