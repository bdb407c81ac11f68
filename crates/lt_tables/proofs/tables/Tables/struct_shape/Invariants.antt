use Rattle.std.proofs.Common.{◌≡◌}
use Rattle.lt_tree.specs.Typing.Types.{Struct}
use Rattle.lt_tree.specs.Typing.Extents.{size_of}
use Rattle.lt_tree.specs.Typing.Shapes.{repeated}
use Rattle.std.proofs.Common.{length}
use Rattle.lt_tables.specs.Stretches.{cells_in}
use Rattle.lt_tables.specs.Views.{program_at}
use Rattle.lt_tables.proofs.tables.Tables.struct_shape.Given as goal

abbrev pub invariant-loop-place : goal.invariant-loop-place
invariant-loop-place l =
    l.cells.items ≡ repeated l.place (size_of (program_at l.self).model (program_at l.self).structs (Struct l.number)) (cells_in (program_at l.self) (length (program_at l.self).structs) (Struct l.number)) 0
