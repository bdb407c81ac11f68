use Rattle.std.proofs.Common.{◌≡◌, ◌++◌, ◌-◌, ◌*◌}
use Rattle.lt_tree.specs.Typing.Shapes.{repeated}
use Rattle.lt_input_blocks.proofs.ShapeLaws.{part}
use Rattle.lt_input_blocks.proofs.block_types.shapes.plain_shape.Given as goal

abbrev pub invariant-loop-place : goal.invariant-loop-place
invariant-loop-place l = l.cells.items ++ repeated (l.count - l.place) l.size (part l.ty) (l.size * l.place) ≡ repeated l.count l.size (part l.ty) 0
