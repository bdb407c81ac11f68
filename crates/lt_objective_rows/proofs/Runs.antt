-- The worked runs of marked texts compute.
use Rattle.std.proofs.Common.{refl}
use Rattle.std.specs.Fmt.{digits}
use Rattle.lt_model.specs.Memory.{load, store, create_shaped}
use Rattle.lt_tree.specs.Typing.UnitTyping.{typing_to}
use Rattle.lt_tree.specs.Typing.Extents.{struct_cells, struct_extent}
use Rattle.lt_tree.specs.Typing.Shapes.{struct_cells_at}
use Rattle.lt_objective_rows.specs.MarkedRuns as s

pub each_time : s.TestsAreMarkedEachTime
unfolding digits typing_to struct_cells struct_extent struct_cells_at load store create_shaped
each_time = (refl, refl)

pub evaluated : s.MarksStandWhereTheyAreEvaluated
unfolding digits typing_to struct_cells struct_extent struct_cells_at load store create_shaped
evaluated = refl

pub undefined : s.UndefinedMutantsAreNotTrue
unfolding digits typing_to struct_cells struct_extent struct_cells_at load store create_shaped
undefined = (refl, refl, refl)

pub absolute : s.AbsoluteValues
unfolding digits typing_to struct_cells struct_extent struct_cells_at load store create_shaped
absolute = (refl, refl, refl)

pub once : s.CallsAreMadeOnce
unfolding digits typing_to struct_cells struct_extent struct_cells_at load store create_shaped
once = (refl, refl)

pub behind : s.TestsComeBehindOldMarks
unfolding digits typing_to struct_cells struct_extent struct_cells_at load store create_shaped
behind = (refl, refl)
