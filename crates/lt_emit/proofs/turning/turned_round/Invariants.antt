use Rattle.std.proofs.Common.{◌≡◌, ◌++◌, map, take, drop}
use Rattle.std.specs.Prelude.{reverse}
use Rattle.lt_emit.specs.Turning.{turned}
use Rattle.lt_emit.specs.Turned.{point_of}
use Rattle.lt_emit.proofs.turning.turned_round.Given as goal

abbrev pub invariant-nodes : goal.invariant-nodes
invariant-nodes l =
    l.node-items ≡ map (turned (point_of l.last)) (take l.node-index (reverse l.fn.nodes.items)) ++ drop l.node-index (reverse l.fn.nodes.items)
