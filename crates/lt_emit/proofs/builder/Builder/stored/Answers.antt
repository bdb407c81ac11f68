use Rattle.std.proofs.Common.{◌≡◌, ◌+◌, Some, slice_get, subst}
use Rattle.lt_model.specs.declared.cell.CellType.{CellType}
use Rattle.lt_ir.specs.declared.node.Node.TheVariants as node
use Rattle.lt_emit.proofs.Spent.{within_here, fitting}
use Rattle.lt_emit.proofs.builder.Builder.stored.Goals as goal

pub returns : goal.returns
returns c =
    within_here c.emit.ensures.code (λ from it p.
    let Is : CellType → Type 0 =
    λ ty. slice_get it.nodes (it.point from)
    ≡ Some (node.Store c.args.register (c.args.register + 3) c.args.gives ty c.args.self.now.tracks (it.point c.args.to)) in
    (p.1.1, subst Is c.cell_type.ensures p.0)) (grind fitting)
