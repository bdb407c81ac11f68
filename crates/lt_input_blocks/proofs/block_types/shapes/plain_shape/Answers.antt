use Rattle.std.proofs.Common.{ℕ, List, ◌++◌, ◌-◌, ◌*◌, ap, ◌∙◌}
use Rattle.lt_model.specs.declared.cell.ShapeCell.{ShapeCell}
use Rattle.lt_tree.specs.Typing.Shapes.{repeated}
use Rattle.lt_input_blocks.proofs.ShapeLaws.{part, plain_start, plain_step}
use Rattle.lt_input_blocks.proofs.block_types.shapes.plain_shape.Goals as goal

pub loop-place-init : goal.loop-place-init
loop-place-init c =
    ap (λ (l : List ShapeCell). l ++ repeated (c.args.count - 0) c.args.size (part c.args.ty) (c.args.size * 0)) c.new-cells.ensures.items ∙ plain_start c.args.count c.args.size c.args.ty

pub loop-place-preserved : goal.loop-place-preserved
loop-place-preserved c =
    plain_step c.args.count c.loop-place.place c.args.size c.args.ty c.loop-place.cells.items c.push.new.self.items _ c.loop-place-test.true
    (c.in_ok-push.ensures.items ∙ ap (λ (n : ℕ). c.loop-place.cells.items ++ part c.args.ty (c.args.size * n)) c.from.ensures) c.loop-place.invariant
