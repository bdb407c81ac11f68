use Rattle.std.proofs.Common.{◌≡◌, List, map, Some, slice_get, subst}
use Rattle.lt_ir.specs.declared.node.Arm.{Arm}
use Rattle.lt_ir.specs.declared.node.Node.TheVariants as node
use Rattle.lt_emit.specs.Turning.{turned_arm}
use Rattle.lt_emit.proofs.Spent.{within_here, fitting}
use Rattle.lt_lower.proofs.flow.labels.choice.Goals as goal

pub returns : goal.returns
returns c =
    within_here c.emit.ensures.code (λ from it p.
    let Is : List Arm → Type 0 =
    λ arms. (table : List Arm) × (slice_get it.nodes (it.point from)
    ≡ Some (node.Switch 0 (map (turned_arm it.point) arms) table (it.point c.args.default))) in
    subst Is c.new.ensures (_, p.0)) (grind fitting)
