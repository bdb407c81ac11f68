-- The worked examples of used values compute.
use Rattle.std.proofs.Common.{refl}
use Rattle.lt_model.specs.Memory.{load, store, create_shaped, copy_struct}
use Rattle.lt_tree.specs.Typing.UnitTyping.{typing_to}
use Rattle.lt_tree.specs.Typing.Extents.{struct_cells, struct_extent, struct_has_constant}
use Rattle.lt_tree.specs.Typing.Shapes.{struct_cells_at}
use Rattle.lt_meaning_runs.specs.UsedValues as s

returned : s.MissingReturned
unfolding typing_to struct_cells struct_extent struct_cells_at load store create_shaped copy_struct
returned = (refl, refl)

passed : s.MissingPassed
unfolding typing_to struct_cells struct_extent struct_cells_at load store create_shaped copy_struct
passed = (refl, refl, refl)

for_exit : s.MissingForExit
unfolding typing_to struct_cells struct_extent struct_cells_at load store create_shaped copy_struct
for_exit = refl

dropped_branch : s.DroppedBranch
unfolding typing_to struct_cells struct_extent struct_cells_at load store create_shaped copy_struct
dropped_branch = refl

from_main : s.NullFromMain
unfolding typing_to struct_cells struct_extent struct_cells_at load store create_shaped copy_struct
from_main = refl

clash_first : s.ClashBeforeConversion
unfolding typing_to struct_cells struct_extent struct_cells_at load store create_shaped copy_struct
clash_first = refl

read_first : s.ReadBeforeTheRightOperand
unfolding typing_to struct_cells struct_extent struct_cells_at load store create_shaped copy_struct
read_first = refl

start : s.FullExpressionOfAStart
unfolding typing_to struct_cells struct_extent struct_cells_at load store create_shaped copy_struct
start = refl

copy : s.CopyToOtherCells
unfolding typing_to struct_cells struct_extent struct_has_constant struct_cells_at load store create_shaped copy_struct
copy = refl

pub worked_out : s.UsedValuesAreWorkedOut
worked_out = (returned, passed, for_exit, dropped_branch, from_main, clash_first, read_first, start, copy)
