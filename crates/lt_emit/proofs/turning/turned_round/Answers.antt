use Rattle.std.proofs.Common.{◌≡◌, suc, ◌+◌, ◌<◌, ◌++◌, length, map, take, drop, slice_set, slice_index_or, ap, ◌∙◌, arith}
use Rattle.std.specs.Prelude.{reverse}
use Rattle.lt_ir.specs.declared.node.Node.{Node}
use Rattle.lt_emit.specs.Turning.{turned}
use Rattle.lt_emit.specs.Turned.{point_of}
use Rattle.lt_emit.proofs.Stepwise.{turn_step}
use Rattle.lt_emit.proofs.turning.turned_round.Goals as goal

pub nodes-preserved : goal.nodes-preserved
nodes-preserved c =
    let k = c.nodes.node-index in
    let turn : Node → Node = turned (point_of c.args.last) in
    let blank : Node = c.node-item.result in
    let there : k < length (reverse c.args.nodes.items) =
    omega (arith, c.nodes-test.true, ap length c.deref_mut-node-items.ensures.value, ap length c.reverse.ensures.items) in
    let next : suc k ≡ k + 1 = omega arith in
    ap (λ it. slice_set c.nodes.node-items k it) (c.turned.ensures ∙ ap turn c.replace.ensures.value)
    ∙ ap (λ nodes. slice_set nodes k (turn (slice_index_or nodes k blank))) c.nodes.invariant
    ∙ turn_step turn (reverse c.args.nodes.items) k blank there
    ∙ ap (λ n. map turn (take n (reverse c.args.nodes.items)) ++ drop n (reverse c.args.nodes.items)) next
